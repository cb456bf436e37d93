-- Demand 2, what may change (REFERENCE 1.2, 9.5): "over every chain and allowance: cells outside the selected track never change; within it a Data update
-- changes only that data area with its check, a Key and Data update those two areas, Write HA, R0 and 1D only their own area or record and what lies behind
-- it; nothing changes without mask and licence; a command that ends in Unit Check changes no cell. Storage changes only where a read or Sense put its bytes
-- and in bytes 64 to 71 by a stored status word (68 and 69 by answer 5)." What may change is said by the command's row of the table and by what is held and
-- recorded, never by what a turn lays or gives; of the turn only how many bytes moved is taken, and whether the chain ends.
use Rattle.std.specs.Prelude.{ℕ, zero, suc, ◌+◌, ◌-◌, ◌*◌, ◌<◌, ◌≤◌, min, ◌≡◌, Bool, true, false, not, List, [], ◌∷◌, ◌⊎◌, length, get_or, ltb, leb, eqb, Ok, Err, None, Some, Option, Result}
use Rattle.cells.specs.Cells.{pick, both, either, track_cells, gap}
use Rattle.rows.specs.declared.{Row.Row}
use Rattle.rows.specs.Rows.{sense}
use Rattle.words.specs.declared.{Word.Word, Directive.Directive, Cause.Cause}
use Rattle.words.specs.Words.{word_bytes, status_at}
use Rattle.house_check.specs.Check.{check_bytes}
use Rattle.areas.specs.declared.{Area.Area, Counts.Counts}
use Rattle.areas.specs.Areas.{home_area, home_flag, r0_first, counts_at, key_area, data_area, record_cells, end_by, needed, flag_of_r0, flag_after}
use Rattle.hunt.specs.declared.{Spot.Spot}
use Rattle.hunt.specs.Hunt.{WholeTrack, count_first}
use Rattle.room.specs.Room.{fits}
use Rattle.pack.specs.declared.{Head.Head, Shape.Shape}
use Rattle.pack.specs.Pack.{track_no}
use Rattle.held.specs.declared.{Position.Position, Orders.Orders}
use Rattle.turn.specs.declared.{Ending.Ending}
use Rattle.format.specs.Format.{new_counts}
use Rattle.table.specs.declared.{Bar.Bar, Write.Write, Act.Act, Rule.Rule}
use Rattle.table.specs.Table.{rule_of, bars_seek, bars_write}
use Rattle.turn.specs.Turn.{Tracks, Piece, given, report_of, lay, check_turn}
use Rattle.command.specs.Command.{licensed, areas_of, gets, command}
use Rattle.command.specs.Frame.{gives_bytes}
use Rattle.channel.specs.Channel.{placed, bytes_moved, goes_on, World}
use Rattle.chain.specs.Step.{under, track_under, next, turn_of, step, run, tested_writes, Legal}
use Rattle.host.specs.declared.{Answer.Answer}
use Rattle.host.specs.Host.{guard_of, if_passes, starts, goes}

-- ---- which cells of the track under the head a command may change

-- n of them from the first on
abbrev pub among : ℕ → ℕ → ℕ → Bool
among first n i = both (leb first i) (ltb i (first + n))

-- an area with its check
unfoldable pub in_area : Area → ℕ → Bool
in_area a i = among a.first (a.bytes + check_bytes) i

-- a key that is there; data, which are not written where DL = 0
unfoldable pub in_key : ℕ → Counts → ℕ → Bool
in_key c n i = both (ltb 0 n.kl) (in_area (key_area c n) i)

unfoldable pub in_data : ℕ → Counts → ℕ → Bool
in_data c n i = both (ltb 0 n.dl) (in_area (data_area c n) i)

-- a write that takes the record whose count area is at c and says n: the home address, R0 or the record behind it, and what lies behind; or that data
-- area, with that key area or not
unfoldable pub reaches : Write → ℕ → Counts → ℕ → Bool
reaches Write.HomeAddress c n i = leb home_area.first i
reaches Write.R0 c n i = leb r0_first i
reaches Write.CountKeyData c n i = leb (end_by c n) i
reaches (Write.Update key) c n i = either (both key (in_key c n i)) (in_data c n i)

-- the record that it takes: R0 for the two that go to the index, else the one selected
unfoldable pub record_taken : Write → Option Spot → Option Spot
record_taken Write.HomeAddress x = Some Spot.R0
record_taken Write.R0 x = Some Spot.R0
record_taken Write.CountKeyData x = x
record_taken (Write.Update key) x = x

unfoldable pub reaches_from : Write → List ℕ → Option Spot → ℕ → Bool
reaches_from k t None i = false
reaches_from k t (Some spot) i = reaches k (count_first spot) (counts_at t (count_first spot)) i

unfoldable pub act_reaches : Act → List ℕ → Option Spot → ℕ → Bool
act_reaches (Act.Control a) t x i = false
act_reaches (Act.Search h) t x i = false
act_reaches (Act.Read counted) t x i = false
act_reaches (Act.Write k) t x i = reaches_from k t (record_taken k x) i

-- barred by the mask
unfoldable pub bars : Bar → ℕ → Bool
bars Bar.Nothing m = false
bars (Bar.Seeks k) m = bars_seek m k
bars (Bar.Writes k) m = bars_write m k

-- nothing without licence and mask
unfoldable pub may_change : Rule → Orders → List ℕ → ℕ → Bool
may_change r o t i =
    both (licensed r.licence o) (both (not (bars r.bar o.mask)) (act_reaches r.act t o.selection i))

-- ---- which bytes of storage: a read's and Sense's, from the word's address on as many as were moved

unfoldable pub may_store : Act → Word → ℕ → ℕ → Bool
may_store a w n i = both (gives_bytes a) (among w.address n i)

-- ---- one command, on a whole track

-- the track under the head, with the cells that it lays
unfoldable pub track_after : Shape → Tracks → Position → Orders → ℕ → List ℕ → List ℕ
track_after g t s o code v = lay (command g t s o code v).lays (t s.head)

-- all cells that are laid are this head's track's
abbrev pub OnTrack : Head → List Piece → Type 0
OnTrack h [] = Unit {0}
OnTrack h (p ∷ l) = (p.head ≡ h) × (p.first + length p.cells ≤ track_cells) × OnTrack h l

pub record CommandConfined (g : Shape) (t : Tracks) (s : Position) (o : Orders) (code : ℕ) (v : List ℕ) : Type 0 where
  -- "a Data update changes only that data area with its check, a Key and Data update those two areas, Write HA, R0 and 1D only their own area or
  -- record and what lies behind it"
  pub cells : (i : ℕ) → may_change (rule_of code) o (t s.head) i ≡ false → get_or (track_after g t s o code v) i gap ≡ get_or (t s.head) i gap
  -- "a format write's cells never reach beyond cell 4,095 of its track"
  pub inside : OnTrack s.head (command g t s o code v).lays
  pub long : length (track_after g t s o code v) ≡ length (t s.head)
  -- "nothing changes without mask and licence"
  pub unlicensed : licensed (rule_of code).licence o ≡ false → track_after g t s o code v ≡ t s.head
  pub barred : bars (rule_of code).bar o.mask ≡ true → track_after g t s o code v ≡ t s.head
  -- "a command that ends in Unit Check changes no cell"
  pub checks : (row : Row) → (command g t s o code v).ending ≡ Ending.Check row → track_after g t s o code v ≡ t s.head
  -- "Storage changes only where a read or Sense put its bytes"
  pub storage : (w : Word) (st : List ℕ) → w.address + w.count ≤ length st → (i : ℕ)
      → may_store (rule_of code).act w (bytes_moved w (report_of (command g t s o code v))) i ≡ false
      → get_or (placed st w (given (command g t s o code v).moves)) i 0 ≡ get_or st i 0

-- ---- the next word

-- cells of the pack
unfoldable pub word_changes : Shape → World → ℕ → Result Directive Cause → Bool
word_changes g w i (Ok (Directive.Obey d)) =
    both (among (under g w.held) track_cells i) (may_change (rule_of d.code) w.held.orders (track_under g w) (i - under g w.held))
word_changes g w i (Ok (Directive.Jump a)) = false
word_changes g w i (Err cause) = false

unfoldable pub changes : Shape → World → ℕ → Bool
changes g w i = word_changes g w i (next w)

-- bytes of storage: the status word is stored where the chain ends, also by a program check
abbrev pub in_status : ℕ → Bool
in_status i = among status_at word_bytes i

unfoldable pub word_stores : Shape → World → ℕ → Result Directive Cause → Bool
word_stores g w i (Ok (Directive.Obey d)) =
    either (may_store (rule_of d.code).act d (bytes_moved d (report_of (turn_of g w d))) i) (both (not (goes_on d (report_of (turn_of g w d)))) (in_status i))
word_stores g w i (Ok (Directive.Jump a)) = false
word_stores g w i (Err cause) = in_status i

unfoldable pub stores : Shape → World → ℕ → Bool
stores g w i = word_stores g w i (next w)

pub record StepConfined (g : Shape) (w : World) : Type 0 where
  pub cells : (i : ℕ) → changes g w i ≡ false → get_or (step g w).cells i gap ≡ get_or w.cells i gap
  -- "cells outside the selected track never change"
  pub elsewhere : (i : ℕ) → (i < under g w.held) ⊎ (under g w.held + track_cells ≤ i) → get_or (step g w).cells i gap ≡ get_or w.cells i gap
  pub checks : (d : Word) → next w ≡ Ok (Directive.Obey d) → (row : Row) → (turn_of g w d).ending ≡ Ending.Check row → (step g w).cells ≡ w.cells
  pub long : length (step g w).cells ≡ length w.cells
  pub storage_long : length (step g w).storage ≡ length w.storage
  -- ".. and in bytes 64 to 71 by a stored status word"
  pub storage : (i : ℕ) → stores g w i ≡ false → get_or (step g w).storage i 0 ≡ get_or w.storage i 0

-- ---- an allowance of n words: a test holds of none that runs

unfoldable pub spares : Shape → (World → Bool) → ℕ → World → Bool
spares g f zero w = true
spares g f (suc n) w = pick w.held.channel.going (both (not (f w)) (spares g f n (step g w))) true

-- none may change the cell, or the byte of storage
unfoldable pub spares_cell : Shape → ℕ → ℕ → World → Bool
spares_cell g i n w = spares g (λ (v : World). changes g v i) n w

unfoldable pub spares_byte : Shape → ℕ → ℕ → World → Bool
spares_byte g i n w = spares g (λ (v : World). stores g v i) n w

-- the number of the track under the head
abbrev pub track_on : Shape → World → ℕ
track_on g w = track_no g w.held.position.cylinder w.held.position.head

-- none is a write while the head is on track m
unfoldable pub writes_on : Shape → ℕ → World → Bool
writes_on g m w = both (eqb m (track_on g w)) (tested_writes (next w))

unfoldable pub spares_track : Shape → ℕ → ℕ → World → Bool
spares_track g m n w = spares g (writes_on g m) n w

-- "over every chain and allowance"
pub record RunConfined (g : Shape) (n : ℕ) (w : World) : Type 0 where
  pub cells : (i : ℕ) → spares_cell g i n w ≡ true → get_or (run g n w).cells i gap ≡ get_or w.cells i gap
  pub track : (m i : ℕ) → i < track_cells → spares_track g m n w ≡ true
      → get_or (run g n w).cells (m * track_cells + i) gap ≡ get_or w.cells (m * track_cells + i) gap
  pub storage : (i : ℕ) → spares_byte g i n w ≡ true → get_or (run g n w).storage i 0 ≡ get_or w.storage i 0
  pub long : length (run g n w).cells ≡ length w.cells
  pub storage_long : length (run g n w).storage ≡ length w.storage

-- ---- what a host's call changes: nothing where it is refused; a start no cell, and of storage bytes 68 and 69 by answer 5

pub record CallConfined (g : Shape) (n : ℕ) (w : World) : Type 0 where
  pub cells : (i : ℕ) → if_passes (guard_of g w) (spares_cell g i n w) ≡ true → get_or (goes g n w).left.cells i gap ≡ get_or w.cells i gap
  pub track : (m i : ℕ) → i < track_cells → if_passes (guard_of g w) (spares_track g m n w) ≡ true
      → get_or (goes g n w).left.cells (m * track_cells + i) gap ≡ get_or w.cells (m * track_cells + i) gap
  pub storage : (i : ℕ) → if_passes (guard_of g w) (spares_byte g i n w) ≡ true → get_or (goes g n w).left.storage i 0 ≡ get_or w.storage i 0
  pub long : length (goes g n w).left.cells ≡ length w.cells
  pub storage_long : length (goes g n w).left.storage ≡ length w.storage
  pub start_cells : (starts g w).left.cells ≡ w.cells
  pub start_else : ((starts g w).answer ≡ Answer.BadStart → ⊥) → (starts g w).left.storage ≡ w.storage
  pub start_storage : (i : ℕ) → among 68 2 i ≡ false → get_or (starts g w).left.storage i 0 ≡ get_or w.storage i 0
  pub start_long : length (starts g w).left.storage ≡ length w.storage

-- ---- "no write that doesn't fit changes a cell, whichever row it gets; if no earlier row holds it gets 00 40 and moves the lesser of count and 8."

-- whether a write on the record whose count area is at c has room for the bytes v; 19 and the updates need none
unfoldable pub has_room : Write → ℕ → List ℕ → List ℕ → Bool
has_room Write.HomeAddress c v t = true
has_room Write.R0 c v t = fits r0_first (record_cells (new_counts (flag_of_r0 (home_flag t)) v))
has_room Write.CountKeyData c v t = fits (end_by c (counts_at t c)) (needed (new_counts (flag_after (counts_at t c).flag) v))
has_room (Write.Update key) c v t = true

-- no earlier row: what came before and the mask let it write, and what it reads first is readable
pub record NoRowBefore (t : Tracks) (s : Position) (o : Orders) (code : ℕ) (spot : Spot) : Type 0 where
  pub licence : licensed (rule_of code).licence o ≡ true
  pub mask : bars (rule_of code).bar o.mask ≡ false
  pub counts : Counts
  pub reads : gets (rule_of code).names t s.head (count_first spot) ≡ Ok counts

-- a write that has no room
pub record RoomKept (g : Shape) (t : Tracks) (s : Position) (o : Orders) (code : ℕ) (v : List ℕ) (spot : Spot) : Type 0 where
  pub cells : track_after g t s o code v ≡ t s.head
  pub row : NoRowBefore t s o code spot
      → command g t s o code v ≡ check_turn s o (areas_of (rule_of code).names t s.head (count_first spot)) Row.NoRoom
  pub moved : NoRowBefore t s o code spot → (w : Word) → bytes_moved w (report_of (command g t s o code v)) ≡ min w.count 8
  pub shown : NoRowBefore t s o code spot → (command g t s o code v).position.sense ≡ sense 0x00 0x40

-- ---- all of it

pub record Confined (g : Shape) : Type 0 where
  pub command : (t : Tracks) (s : Position) (o : Orders) (code : ℕ) (v : List ℕ) → WholeTrack (t s.head) → CommandConfined g t s o code v
  pub word : (w : World) → Legal g w → StepConfined g w
  pub allowance : (n : ℕ) (w : World) → Legal g w → RunConfined g n w
  pub call : (n : ℕ) (w : World) → CallConfined g n w
  pub room : (t : Tracks) (s : Position) (o : Orders) (code : ℕ) (v : List ℕ) (k : Write) (spot : Spot) → (rule_of code).act ≡ Act.Write k
      → record_taken k o.selection ≡ Some spot → has_room k (count_first spot) v (t s.head) ≡ false → RoomKept g t s o code v spot
