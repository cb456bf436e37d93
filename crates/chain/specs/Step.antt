-- One command word, and an allowance of them: the channel takes the word, the command has its turn, the pack takes the cells that it lays. REFERENCE 9.4.
-- Document 01, "What the host hears", refusals 2 to 4; REFERENCE 3.5, 9.1: what storage, pack and held state must be for that.
use Rattle.std.specs.Prelude.{ℕ, zero, suc, ◌+◌, ◌≤◌, ◌≡◌, Bool, true, false, not, List, [], ◌∷◌, length, ltb, leb, Ok, Err, None, Some, Result, Option}
use Rattle.cells.specs.Cells.{pick, both, overlay, track_cells, marks}
use Rattle.words.specs.declared.{Word.Word, Directive.Directive, Cause.Cause}
use Rattle.words.specs.Words.{tested, addresses}
use Rattle.hunt.specs.Hunt.{spot_fits}
use Rattle.pack.specs.declared.{Cylinder.Cylinder, Shape.Shape}
use Rattle.pack.specs.Pack.{start_of, track_at, cylinder_on, head_on, WholePack}
use Rattle.held.specs.declared.{Held.Held, Position.Position, Orders.Orders, Channel.Channel}
use Rattle.table.specs.Table.{is_write, rule_of, is_mask}
use Rattle.turn.specs.Turn.{Tracks, TrackArea, Piece, Turn}
use Rattle.command.specs.Command.{command, most_tally}
use Rattle.channel.specs.Channel.{fetched, World, world, stops, jumped, word_end}
use Rattle.hunt.specs.declared.{Spot.Spot}

-- the first cell of the track under the head, and that track
unfoldable pub under : Shape → Held → ℕ
under g h = start_of g h.position.cylinder h.position.head

unfoldable pub track_under : Shape → World → List ℕ
track_under g w = track_at w.cells (under g w.held)

-- the next word, tested
unfoldable pub next : World → Result Directive Cause
next w = tested w.storage w.held.channel.next w.held.channel.after_tic

-- ---- the pack: the tracks of a cylinder, and cells laid on them

unfoldable pub tracks_of : Shape → List ℕ → Cylinder → Tracks
tracks_of g cells c h = track_at cells (start_of g c h)

unfoldable pub lay_on : Shape → Cylinder → List Piece → List ℕ → List ℕ
lay_on g c [] cells = cells
lay_on g c (p ∷ l) cells = lay_on g c l (overlay cells (start_of g c p.head + p.first) p.cells)

-- ---- one word

-- a command has its turn
unfoldable pub turn_of : Shape → World → Word → Turn
turn_of g w d =
    command g (tracks_of g w.cells w.held.position.cylinder) w.held.position w.held.orders d.code (fetched w.storage d)

-- the channel ends it, and its cells are laid
unfoldable pub settled : Shape → World → Word → Turn → World
settled g w d t = word_end w d t (lay_on g w.held.position.cylinder t.lays w.cells)

unfoldable pub obeyed : Shape → World → Word → World
obeyed g w d = settled g w d (turn_of g w d)

unfoldable pub step_by : Shape → World → Result Directive Cause → World
step_by g w (Ok (Directive.Obey d)) = obeyed g w d
step_by g w (Ok (Directive.Jump a)) = world (jumped w.held a) w.storage w.cells
step_by g w (Err cause) = stops w cause

unfoldable pub step : Shape → World → World
step g w = step_by g w (next w)

-- an allowance of n words
unfoldable pub run : Shape → ℕ → World → World
run g zero w = w
run g (suc n) w = pick w.held.channel.going (run g n (step g w)) w

-- ---- of the next word: the areas that it reads, and whether it is a write, 19, 15, 1D, 05 or 0D

unfoldable pub tested_reads : Shape → World → Result Directive Cause → List TrackArea
tested_reads g w (Ok (Directive.Obey d)) = (turn_of g w d).reads
tested_reads g w (Ok (Directive.Jump a)) = []
tested_reads g w (Err cause) = []

unfoldable pub word_reads : Shape → World → List TrackArea
word_reads g w = tested_reads g w (next w)

unfoldable pub tested_writes : Result Directive Cause → Bool
tested_writes (Ok (Directive.Obey d)) = is_write (rule_of d.code).act
tested_writes (Ok (Directive.Jump a)) = false
tested_writes (Err cause) = false

-- ---- refusals 2 and 4, and what they and 3 make sure of

-- 2: the least storage, for the words at 64 and 72; the most
abbrev pub least_storage : ℕ
least_storage = 80

unfoldable pub storage_fits : ℕ → Bool
storage_fits n = both (leb least_storage n) (leb n addresses)

-- 4: off the pack, place over 4,096
unfoldable pub position_fits : Shape → Position → Bool
position_fits g s = both (cylinder_on g s.cylinder) (both (head_on g s.head) (leb s.place track_cells))

-- key over 15, next address over 24 bits
abbrev pub keys : ℕ
keys = 16

unfoldable pub channel_fits : Channel → Bool
channel_fits c = both (ltb c.key keys) (ltb c.next addresses)

-- a selection that is neither R0 nor a marker, or is missing where the command before leaves one
unfoldable pub selection_fits : List Bool → Orders → Option Spot → Bool
selection_fits m o None = not (rule_of o.before).selects
selection_fits m o (Some spot) = spot_fits m spot

-- illegal mask, tally over 1
unfoldable pub orders_fit : List Bool → Orders → Bool
orders_fit m o = both (is_mask o.mask) (both (leb o.tally most_tally) (selection_fits m o o.selection))

unfoldable pub held_fits : Shape → World → Bool
held_fits g w =
    both (position_fits g w.held.position) (both (channel_fits w.held.channel) (orders_fit (marks (track_under g w)) w.held.orders))

-- what the refusals make sure of for a step
pub record Legal (g : Shape) (w : World) : Type 0 where
  pub whole : WholePack g w.cells
  pub room : least_storage ≤ length w.storage
  pub held : held_fits g w ≡ true
