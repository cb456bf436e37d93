-- Document 01, "What lies on a track"; REFERENCE 2.7: a track is soundly written when home address, R0 and every record lie one after another, each area
-- readable, flags by rule, and all cells after the last are 0.
use Rattle.std.specs.Prelude.{ℕ, ◌+◌, ◌≤◌, ◌≡◌, true, List, [], ◌∷◌, length, get_or}
use Rattle.cells.specs.Cells.{track_cells, marker, gap}
use Rattle.areas.specs.Areas.{home_area, home_flag, r0_first, count_area, key_area, data_area, readable, area_bytes, counts_at, end_by, flag_of_r0, flag_after}

-- the flag of the count area at c
abbrev pub flag_at : List ℕ → ℕ → ℕ
flag_at t c = (counts_at t c).flag

-- the cell after the record whose count area is at c
abbrev pub end_at : List ℕ → ℕ → ℕ
end_at t c = end_by c (counts_at t c)

-- each area of the record whose count area is at c is readable; if DL = 0 the data area is one zero byte
pub record Record (t : List ℕ) (c : ℕ) : Type 0 where
  pub count : readable t (count_area c) ≡ true
  pub key : ((counts_at t c).kl ≡ 0 → ⊥) → readable t (key_area c (counts_at t c)) ≡ true
  pub body : readable t (data_area c (counts_at t c)) ≡ true
  pub empty : (counts_at t c).dl ≡ 0 → area_bytes t (data_area c (counts_at t c)) ≡ 0 ∷ []

-- records from cell p on, after one whose flag is f; then gaps
pub data Records (t : List ℕ) : ℕ → ℕ → Type 0 where
  none : {f p : ℕ} → ((i : ℕ) → p ≤ i → get_or t i gap ≡ gap) → Records t f p
  more : {f p : ℕ} → get_or t p gap ≡ marker → Record t (p + 1) → flag_at t (p + 1) ≡ flag_after f
      → Records t (flag_at t (p + 1)) (end_at t (p + 1)) → Records t f p

pub record Sound (t : List ℕ) : Type 0 where
  pub long : length t ≡ track_cells
  pub home : readable t home_area ≡ true
  pub r0 : Record t r0_first
  pub flag : flag_at t r0_first ≡ flag_of_r0 (home_flag t)
  pub rest : Records t (flag_at t r0_first) (end_at t r0_first)
