-- Demand 3 (REFERENCE 1.3): one or more recorded bits of one area of a soundly written track are changed, all within 16 successive bits; the areas of such
-- a track; which areas are hit.
use Rattle.std.specs.Prelude.{ℕ, ◌+◌, ◌<◌, ◌≤◌, ◌≡◌, Bool, true, false, List, [], ◌∷◌, length, get_or, eqb}
use Rattle.cells.specs.Cells.{both, either, gap, is_byte, bytes_of, marks}
use Rattle.house_check.specs.Check.{check_bytes, Burst, window}
use Rattle.areas.specs.declared.{Part.Part, Area.Area}
use Rattle.areas.specs.Areas.{area_cells, home_area, count_area, key_area, data_area, counts_at}
use Rattle.hunt.specs.declared.{Spot.Spot}
use Rattle.hunt.specs.Hunt.{count_first, spot_fits}

-- ---- the areas of a track

-- a record that is there: R0, or one that a marker begins
abbrev pub IsRecord : List ℕ → Spot → Type 0
IsRecord t r = spot_fits (marks t) r ≡ true

-- the home address, and of every record that is there its count, its key if it has one, and its data
pub data Own (t : List ℕ) : Area → Type 0 where
  own_home : Own t home_area
  own_count : (r : Spot) → IsRecord t r → Own t (count_area (count_first r))
  own_key : (r : Spot) → IsRecord t r → ((counts_at t (count_first r)).kl ≡ 0 → ⊥) → Own t (key_area (count_first r) (counts_at t (count_first r)))
  own_data : (r : Spot) → IsRecord t r → Own t (data_area (count_first r) (counts_at t (count_first r)))

-- ---- damage

-- cell i is one of an area's, those of its check included
abbrev pub In : Area → ℕ → Type 0
In a i = (a.first ≤ i) × (i < a.first + a.bytes + check_bytes)

-- t' is t with one or more recorded bits of the area x changed, all within 16 successive bits from bit s; no marker and nothing else
pub record Damaged (s : ℕ) (x : Area) (t t' : List ℕ) : Type 0 where
  pub long : length t' ≡ length t
  pub others : (i : ℕ) → (In x i → ⊥) → get_or t' i gap ≡ get_or t i gap
  pub recorded : (i : ℕ) → In x i → is_byte (get_or t' i gap) ≡ true
  pub bits : Burst window s (bytes_of (area_cells t x)) (bytes_of (area_cells t' x))

-- ---- which areas are hit

-- whether one of a list is hit
unfoldable pub any : {A : Type 0} → (A → Bool) → List A → Bool
any hit [] = false
any hit (a ∷ l) = either (hit a) (any hit l)

-- the four parts by number
unfoldable pub part_no : Part → ℕ
part_no Part.Home = 0
part_no Part.Count = 1
part_no Part.Key = 2
part_no Part.Data = 3

-- whether two areas are one
unfoldable pub same_area : Area → Area → Bool
same_area x a = both (eqb x.first a.first) (both (eqb x.bytes a.bytes) (eqb (part_no x.part) (part_no a.part)))
