-- Demand 3 (REFERENCE 1.3): take a soundly written track and change one or more recorded bits in one area of it, check bytes included, all within 16
-- successive bits, markers untouched. Run the same chain, without writes, from the same state on both, all else alike. Until a command reads that area all
-- agrees; the first command that reads it ends with Data Check.
use Rattle.std.specs.Prelude.{ℕ, zero, suc, ◌+◌, ◌*◌, ◌<◌, ◌≤◌, ◌≡◌, Bool, true, false, not, List, [], ◌∷◌, ◌⊎◌, length, get_or, eqb, Ok}
use Rattle.cells.specs.Cells.{pick, both, track_cells, gap}
use Rattle.rows.specs.declared.{Sense.Sense}
use Rattle.rows.specs.Rows.{sense}
use Rattle.words.specs.declared.{Word.Word, Directive.Directive}
use Rattle.words.specs.Words.{stored, status_for}
use Rattle.areas.specs.declared.{Part.Part, Area.Area}
use Rattle.pack.specs.declared.{Cylinder.Cylinder, Shape.Shape}
use Rattle.pack.specs.Pack.{track_no, track_at}
use Rattle.held.specs.declared.{Held.Held}
use Rattle.held.specs.Held.{rested}
use Rattle.turn.specs.Turn.{with_sense, TrackArea}
use Rattle.channel.specs.Channel.{World, world}
use Rattle.chain.specs.Step.{next, step, run, word_reads, tested_writes}
use Rattle.sound.specs.Sound.{Sound}
use Rattle.claim_track.specs.Damage.{Own, Damaged, any, same_area}
use Rattle.host.specs.declared.{Answer.Answer}
use Rattle.host.specs.Host.{Hears, guard_of, if_passes, starts, goes, no_refusal}

-- ---- two packs, alike but for one area of one track

-- the cells of track n
abbrev pub track : List ℕ → ℕ → List ℕ
track c n = track_at c (n * track_cells)

-- c' is the pack c, but that in the area x of its track n, which was soundly written, bits were changed within 16 from bit s on.
-- Every other track is any track
pub record Harmed (n s : ℕ) (x : Area) (c c' : List ℕ) : Type 0 where
  pub long : length c' ≡ length c
  pub elsewhere : (i : ℕ) → (i < n * track_cells) ⊎ (n * track_cells + track_cells ≤ i) → get_or c' i gap ≡ get_or c i gap
  pub sound : Sound (track c n)
  pub own : Own (track c n) x
  pub damaged : Damaged s x (track c n) (track c' n)

-- ---- what a word that runs does

-- the next word is 19, 15, 1D, 05 or 0D
unfoldable pub next_writes : World → Bool
next_writes w = tested_writes (next w)

-- an area under a head of this cylinder is the area x of track n
unfoldable pub is_it : Shape → ℕ → Area → Cylinder → TrackArea → Bool
is_it g n x c a = both (eqb n (track_no g c a.head)) (same_area x a.area)

-- the next word reads that area
unfoldable pub reads_it : Shape → ℕ → Area → World → Bool
reads_it g n x w = any (is_it g n x w.held.position.cylinder) (word_reads g w)

-- of the first k words that run none is a write and none reads that area
unfoldable pub spared : Shape → ℕ → Area → ℕ → World → Bool
spared g n x zero w = true
spared g n x (suc k) w =
    pick w.held.channel.going (both (not (next_writes w)) (both (not (reads_it g n x w)) (spared g n x k (step g w)))) true

-- ---- what a host does: starts, and goes with any allowances, one after another, with the lent memory untouched between

pub data HostCall : Type 0 where
  start : HostCall
  go : ℕ → HostCall

unfoldable pub hear : Shape → HostCall → World → Hears
hear g start w = starts g w
hear g (go k) w = goes g k w

-- what is heard, call by call, and what is left in the end
unfoldable pub heard : Shape → List HostCall → World → List Hears
heard g [] w = []
heard g (k ∷ ks) w = hear g k w ∷ heard g ks (hear g k w).left

unfoldable pub left : Shape → List HostCall → World → World
left g [] w = w
left g (k ∷ ks) w = left g ks (hear g k w).left

-- no word that ran in these calls was a write, and none read that area; a start and a refused go run none
unfoldable pub spared_call : Shape → ℕ → Area → HostCall → World → Bool
spared_call g n x start w = true
spared_call g n x (go k) w = if_passes (guard_of g w) (spared g n x k w)

unfoldable pub spared_calls : Shape → ℕ → Area → List HostCall → World → Bool
spared_calls g n x [] w = true
spared_calls g n x (k ∷ ks) w = both (spared_call g n x k w) (spared_calls g n x ks (hear g k w).left)

-- ---- until a command reads that area every answer, stored byte, sense byte and held value agrees, and no cell of either pack changes

pub record Alike (c c' : List ℕ) (w v : World) : Type 0 where
  pub held : v.held ≡ w.held
  pub storage : v.storage ≡ w.storage
  pub mine : w.cells ≡ c
  pub theirs : v.cells ≡ c'

pub record Agrees (c c' : List ℕ) (x y : Hears) : Type 0 where
  pub answer : y.answer ≡ x.answer
  pub left : Alike c c' x.left y.left

pub data AllAgree (c c' : List ℕ) : List Hears → List Hears → Type 0 where
  none : AllAgree c c' [] []
  more : {x y : Hears} {l m : List Hears} → Agrees c c' x y → AllAgree c c' l m → AllAgree c c' (x ∷ l) (y ∷ m)

-- ---- the first command that reads it

-- 08 80 for a count, 08 00 for a home address, a key, data
unfoldable pub data_check : Part → Sense
data_check Part.Home = sense 0x08 0x00
data_check Part.Count = sense 0x08 0x80
data_check Part.Key = sense 0x08 0x00
data_check Part.Data = sense 0x08 0x00

-- what it leaves of w: the chain is at its end with Data Check in sense, the head where it was; of storage only the status word is new, with
-- Unit Check, so that no search is satisfied, and the word's whole count left, so that no byte was moved; no cell is changed
pub record DataChecked (x : Area) (w v : World) : Type 0 where
  pub word : Word
  pub given : next w ≡ Ok (Directive.Obey word)
  pub held : v.held ≡ rested (with_sense w.held.position (data_check x.part))
  pub storage : v.storage ≡ stored w.storage (status_for w.held.channel.key w.held.channel.next 0x0E 0x00 word.count)
  pub cells : v.cells ≡ w.cells

-- in a go from w, word k + 1 is the first that reads the area, and no word up to it is a write
pub record FirstReads (g : Shape) (n : ℕ) (x : Area) (allowance k : ℕ) (w : World) : Type 0 where
  pub passes : guard_of g w ≡ no_refusal
  pub within : k < allowance
  pub before : spared g n x k w ≡ true
  pub going : (run g k w).held.channel.going ≡ true
  pub reads : reads_it g n x (run g k w) ≡ true
  pub nowrite : next_writes (run g k w) ≡ false

-- then the two runs are alike up to that word, no cell of either pack changes (nor did one before: `agrees`), and on the damaged pack the host hears that the
-- chain ended there, with Data Check
pub record EndsThere (g : Shape) (x : Area) (allowance k : ℕ) (w v : World) : Type 0 where
  pub until : Alike w.cells v.cells (run g k w) (run g k v)
  pub answer : (goes g allowance v).answer ≡ Answer.ChainEnded
  pub checked : DataChecked x (run g k v) (goes g allowance v).left

-- ---- the demand, for any calls of a host from any held state and storage

pub record Demand3 (g : Shape) (n : ℕ) (x : Area) (c c' : List ℕ) : Type 0 where
  pub agrees : (h : Held) (storage : List ℕ) (calls : List HostCall) → spared_calls g n x calls (world h storage c) ≡ true
      → AllAgree c c' (heard g calls (world h storage c)) (heard g calls (world h storage c'))
  pub ends : (h : Held) (storage : List ℕ) (calls : List HostCall) → spared_calls g n x calls (world h storage c) ≡ true
      → (allowance k : ℕ) → FirstReads g n x allowance k (left g calls (world h storage c))
      → EndsThere g x allowance k (left g calls (world h storage c)) (left g calls (world h storage c'))
