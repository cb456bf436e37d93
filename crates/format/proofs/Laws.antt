-- Laws of what a write lays: a new record takes the cells that its counts say; a format write keeps the cells before it, lays its own
-- and leaves gaps behind, on a track as long as it was; an area of byte cells lies on the track.
use Prim.Native.Nat.{ℕ, zero, suc, ◌+◌, ◌-◌, ◌<◌, ◌≤◌}
use mathlib.Core.Path.{◌≡◌, refl, sym, ap, ap₂, ◌∙◌}
use mathlib.Core.Bool.{Bool, true, false}
use mathlib.Core.List.{List, [], ◌∷◌, ◌++◌}
use native.Mathlib.Omega.{arith}
use lib.ListN.{length, get_or, take, drop, replicate, length-append, length-replicate, get_or-append}
use lib.Seq.{length-take-le, take_at, get_or-append-add, get_or-take}
use lib.Dec.{eqb}
use borrow.Author.Tests.{eqb-true}
use Rattle.cells.specs.Cells.{pick, part, overlay, padded, all_bytes}
use Rattle.cells.proofs.Laws.{length-overlay, length-padded}
use Rattle.cells.proofs.Tests.{first_of}
use Rattle.house_check.specs.Check.{cells_with_check}
use Rattle.house_check.proofs.Cells.{length_laid}
use Rattle.areas.specs.declared.{Area.Area, Counts.Counts}
use Rattle.areas.specs.Areas.{area_cells, data_bytes, key_cells, record_cells}
use Rattle.areas.proofs.Laws.{length-area_cells}
use Rattle.recording.specs.Recording.{wiped}
use Rattle.format.specs.Format.{new_counts, new_key, new_data, new_record, recorded}

-- ---- how many cells a new record takes

-- n bytes, padded, and their check
pub length-area : (n : ℕ) (v : List ℕ) → length (cells_with_check (padded n v)) ≡ n + 2
length-area n v = length_laid (padded n v) ∙ ap (λ (k : ℕ). k + 2) (length-padded n v)

pub length_key : (n : Counts) (v : List ℕ) → length (new_key n v) ≡ key_cells n
unfolding new_key key_cells
length_key n v = go (eqb n.kl 0)
  where
    go : (b : Bool) → length (pick b [] (cells_with_check (padded n.kl (part v 8 n.kl)))) ≡ pick b 0 (n.kl + 2)
    go true = refl
    go false = length-area n.kl (part v 8 n.kl)

pub length_data : (n : Counts) (v : List ℕ) → length (new_data n v) ≡ data_bytes n + 2
unfolding new_data
length_data n v = length-area (data_bytes n) (part v (8 + n.kl) n.dl)

pub length-new : (flag : ℕ) (v : List ℕ) → length (new_record flag v) ≡ record_cells (new_counts flag v)
unfolding new_record record_cells
length-new flag v =
    let n : Counts = new_counts flag v in
    let count : length (cells_with_check (flag ∷ padded 8 v)) ≡ 11 =
    length_laid (flag ∷ padded 8 v) ∙ ap (λ (k : ℕ). suc k + 2) (length-padded 8 v) in
    length-append (cells_with_check (flag ∷ padded 8 v)) (new_key n v ++ new_data n v)
    ∙ omega (arith, count, length-append (new_key n v) (new_data n v), length_key n v, length_data n v)

-- ---- the track after a format write

gaps : (n i : ℕ) → get_or {A = ℕ} (replicate n 0) i 0 ≡ 0
gaps zero i = refl
gaps (suc n) zero = refl
gaps (suc n) (suc i) = gaps n i

-- cells laid from one on, and gaps behind them
unfoldable pub formatted : List ℕ → ℕ → List ℕ → List ℕ
formatted t at x = wiped (overlay t at x) (at + length x)

module _ (t : List ℕ) (at : ℕ) (x : List ℕ) (ends : at + length x ≤ length t) where
  front_long : length (take at t) ≡ at
  front_long = length-take-le at t (omega arith)

  long : length (take at t ++ x) ≡ at + length x
  long = length-append (take at t) x ∙ ap (λ (k : ℕ). k + length x) front_long

  -- the cells before, those that are laid, gaps
  pub formatted_is : formatted t at x ≡ take at t ++ x ++ replicate (length t - (at + length x)) 0
  unfolding formatted wiped overlay
  formatted_is =
      ap₂ (λ (y : List ℕ) (n : ℕ). y ++ replicate (n - (at + length x)) 0)
      (take_at (take at t ++ x) (drop (at + length x) t) (at + length x) long) (length-overlay t at x ends)

  pub length_formatted : length (formatted t at x) ≡ length t
  length_formatted =
      ap length formatted_is ∙ length-append (take at t ++ x) (replicate (length t - (at + length x)) 0)
      ∙ omega (arith, long, length-replicate {A = ℕ} (length t - (at + length x)) 0)

  pub formatted_before : (i : ℕ) → i < at → get_or (formatted t at x) i 0 ≡ get_or t i 0
  formatted_before i h =
      ap (λ (y : List ℕ). get_or y i 0) formatted_is
      ∙ get_or-append (take at t ++ x) (replicate (length t - (at + length x)) 0) 0 i (omega (arith, long))
      ∙ get_or-append (take at t) x 0 i (omega (arith, front_long)) ∙ get_or-take at t i 0 h

  pub formatted_inside : (i : ℕ) → i < length x → get_or (formatted t at x) (at + i) 0 ≡ get_or x i 0
  formatted_inside i h =
      ap (λ (y : List ℕ). get_or y (at + i) 0) formatted_is
      ∙ get_or-append (take at t ++ x) (replicate (length t - (at + length x)) 0) 0 (at + i) (omega (arith, long))
      ∙ ap (λ (k : ℕ). get_or (take at t ++ x) (k + i) 0) (sym front_long) ∙ get_or-append-add (take at t) x i 0

  pub formatted_behind : (i : ℕ) → at + length x ≤ i → get_or (formatted t at x) i 0 ≡ 0
  formatted_behind i h =
      let n : ℕ = length t - (at + length x) in
      let e : i ≡ length (take at t ++ x) + (i - (at + length x)) = omega (arith, long) in
      ap (λ (y : List ℕ). get_or y i 0) formatted_is ∙ ap (λ (k : ℕ). get_or (take at t ++ x ++ replicate n 0) k 0) e
      ∙ get_or-append-add (take at t ++ x) (replicate n 0) (i - (at + length x)) 0 ∙ gaps n (i - (at + length x))

-- ---- an area that an update goes over

pub recorded-lies : (t : List ℕ) (a : Area) → recorded t a ≡ true → a.first + a.bytes + 2 ≤ length t
unfolding recorded
recorded-lies t a e =
    let long = eqb-true (length (area_cells t a)) (a.bytes + 2) (first_of _ (all_bytes (area_cells t a)) e) in
    omega (arith, long, length-area_cells t a)
