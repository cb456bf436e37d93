-- Document 01, "What lies on a track" and "Commands", the writes; REFERENCE 5.5, 5.6: what each of them leaves on the track under the head. Write R0 leaves
-- a soundly written track whatever lay behind the home address, which it read first; 1D, 05 and 0D leave one if the track was; Write HA leaves a readable
-- home address and zeros from cell 7, which is not soundly written until a Write R0. Reading back returns the bytes written. What was written had its
-- licence, and the mask let it through. A command ending in Unit Check changes no track cell.
use Rattle.std.specs.Prelude.{ℕ, ◌+◌, ◌<◌, ◌≤◌, ◌≡◌, Bool, true, List, [], ◌∷◌, length, get_or, Some, Option, Result}
use Rattle.cells.specs.Cells.{part, padded, track_cells, marker, gap}
use Rattle.rows.specs.declared.{Row.Row}
use Rattle.areas.specs.declared.{Area.Area}
use Rattle.areas.specs.Areas.{home_bytes, home_area, home_flag, r0_first, count_area, counts_at, key_area, data_area, data_bytes, readable, area_bytes, flag_of_r0, flag_after}
use Rattle.hunt.specs.declared.{Spot.Spot}
use Rattle.hunt.specs.Hunt.{count_first}
use Rattle.recording.specs.Recording.{count_sent}
use Rattle.held.specs.declared.{Orders.Orders}
use Rattle.turn.specs.declared.{Ending.Ending}
use Rattle.format.specs.Format.{new_counts}
use Rattle.table.specs.declared.{Write.Write, Rule.Rule}
use Rattle.turn.specs.Turn.{Turn, lay}
use Rattle.command.specs.Command.{licensed, unless_barred, key_sent}
use Rattle.sound.specs.Sound.{flag_at, end_at, Sound}
use Rattle.command.specs.declared.{Task.Task}

-- ---- is the track left soundly written

-- a home address, then zeros: there is no R0 yet
pub record HomeOnly (t : List ℕ) : Type 0 where
  pub long : length t ≡ track_cells
  pub home : readable t home_area ≡ true
  pub zeros : (i : ℕ) → r0_first ≤ i → get_or t i gap ≡ gap
  pub unsound : Sound t → ⊥

-- a write that was done on the track t left t'
unfoldable pub Lasts : Write → List ℕ → List ℕ → Type 0
Lasts Write.HomeAddress t t' = HomeOnly t'
Lasts Write.R0 t t' = Sound t'
Lasts Write.CountKeyData t t' = Sound t → Sound t'
Lasts (Write.Update key) t t' = Sound t → Sound t'

-- ---- reading back returns the bytes written; v are those sent, with zeros for those that are missing

-- an area can be read, and these are its bytes
pub record ReadsAs (t : List ℕ) (a : Area) (v : List ℕ) : Type 0 where
  pub reads : readable t a ≡ true
  pub bytes : area_bytes t a ≡ v

-- a new record, its count area at c: the flag is the box's; the key if it has one; one zero byte of data if DL = 0
pub record NewBack (flag : ℕ) (v t : List ℕ) (c : ℕ) : Type 0 where
  pub count : ReadsAs t (count_area c) (flag ∷ padded count_sent v)
  pub counts : counts_at t c ≡ new_counts flag v
  pub key : 0 < (new_counts flag v).kl
      → ReadsAs t (key_area c (new_counts flag v)) (padded (new_counts flag v).kl (part v count_sent (new_counts flag v).kl))
  pub body : ReadsAs t (data_area c (new_counts flag v))
      (padded (data_bytes (new_counts flag v)) (part v (count_sent + (new_counts flag v).kl) (new_counts flag v).dl))

-- a new record behind another, its marker in cell p
pub record MarkedBack (flag : ℕ) (v t : List ℕ) (p : ℕ) : Type 0 where
  pub mark : get_or t p gap ≡ marker
  pub back : NewBack flag v t (p + 1)

-- an update of the record whose count area is at c, with its key or not: its count as it was
pub record UpdateBack (key : Bool) (v t t' : List ℕ) (c : ℕ) : Type 0 where
  pub counts : counts_at t' c ≡ counts_at t c
  pub keyed : 0 < key_sent key (counts_at t c)
      → ReadsAs t' (key_area c (counts_at t c)) (padded (counts_at t c).kl (part v 0 (counts_at t c).kl))
  pub body : 0 < (counts_at t c).dl
      → ReadsAs t' (data_area c (counts_at t c)) (padded (counts_at t c).dl (part v (key_sent key (counts_at t c)) (counts_at t c).dl))

-- a write that took the record whose count area is at c; 1D writes after it
unfoldable pub ReadsBack : Write → ℕ → List ℕ → List ℕ → List ℕ → Type 0
ReadsBack Write.HomeAddress c v t t' = ReadsAs t' home_area (padded home_bytes v)
ReadsBack Write.R0 c v t t' = NewBack (flag_of_r0 (home_flag t)) v t' r0_first
ReadsBack Write.CountKeyData c v t t' = MarkedBack (flag_after (flag_at t c)) v t' (end_at t c)
ReadsBack (Write.Update key) c v t t' = UpdateBack key v t t' c

-- the record that a write takes is the one selected; Write HA and Write R0 take none
unfoldable pub Took : Write → Option Spot → Spot → Type 0
Took Write.HomeAddress x spot = Unit {0}
Took Write.R0 x spot = Unit {0}
Took Write.CountKeyData x spot = x ≡ Some spot
Took (Write.Update key) x spot = x ≡ Some spot

-- ---- "nothing changes without mask and licence"

-- the command before licenses it, and the mask does not bar it
pub record Permitted (r : Rule) (o : Orders) : Type 0 where
  pub licence : licensed r.licence o ≡ true
  pub mask : (p : Result Task Row) → unless_barred r.bar o.mask p ≡ p

-- ---- the command's turn, by its row r of the table, with the bytes v sent, on the track t under the head

-- it ended in Unit Check and no cell changed; or it did not, then it was permitted, and what it left lasts and can be read back
pub data Leaves (r : Rule) (w : Write) (o : Orders) (v t : List ℕ) (x : Turn) : Type 0 where
  unchanged : (row : Row) → x.ending ≡ Ending.Check row → x.lays ≡ [] → Leaves r w o v t x
  written : Permitted r o → (spot : Spot) → Took w o.selection spot → ((row : Row) → x.ending ≡ Ending.Check row → ⊥)
      → Lasts w t (lay x.lays t) → ReadsBack w (count_first spot) v t (lay x.lays t) → Leaves r w o v t x
