-- Laws of markers: which cells of a track hold one.
use Prim.Native.Nat.{ℕ, zero, suc, ◌+◌, ◌<◌, ◌≤◌}
use mathlib.Core.Path.{◌≡◌, refl, sym, ap, ap₂, ◌∙◌}
use mathlib.Core.Bool.{Bool, true, false}
use mathlib.Core.List.{List, [], ◌∷◌}
use native.Mathlib.Nat.{add-zero, add-suc, suc-add, zero-add}
use lib.ListN.{length, get_or}
use lib.Dec.{leb, eqb}
use borrow.Author.Tests.{le-leb, lt-leb, eq-eqb, ne_eqb}
use Rattle.cells.specs.Cells.{both, first_marker, marker, mark_at, marks_from, marks}

pub both_never : (b : Bool) → both b false ≡ false
both_never true = refl
both_never false = refl

pub length-marks_from : (i : ℕ) (t : List ℕ) → length (marks_from i t) ≡ length t
unfolding marks_from
length-marks_from i [] = refl
length-marks_from i (x ∷ t) = ap suc (length-marks_from (suc i) t)

pub length-marks : (t : List ℕ) → length (marks t) ≡ length t
unfolding marks
length-marks t = length-marks_from 0 t

get_or-marks_from : (i : ℕ) (t : List ℕ) (p : ℕ) → get_or (marks_from i t) p false ≡ both (leb first_marker (i + p)) (eqb (get_or t p 0) marker)
unfolding marks_from
get_or-marks_from i [] p = sym (both_never (leb first_marker (i + p)))
get_or-marks_from i (x ∷ t) zero = ap (λ (k : ℕ). both (leb first_marker k) (eqb x marker)) (sym (add-zero i))
get_or-marks_from i (x ∷ t) (suc p) =
    get_or-marks_from (suc i) t p ∙ ap (λ (k : ℕ). both (leb first_marker k) (eqb (get_or t p 0) marker)) (suc-add i p ∙ sym (add-suc i p))

-- a mark stands for a marker
pub get_or-marks : (t : List ℕ) (p : ℕ) → get_or (marks t) p false ≡ mark_at t p
unfolding marks mark_at
get_or-marks t p = get_or-marks_from 0 t p ∙ ap (λ (k : ℕ). both (leb first_marker k) (eqb (get_or t p 0) marker)) (zero-add p)

pub mark_here : (t : List ℕ) (p : ℕ) → first_marker ≤ p → get_or t p 0 ≡ 512 → mark_at t p ≡ true
unfolding mark_at
mark_here t p h e = ap₂ both (le-leb first_marker p h) (eq-eqb (get_or t p 0) 512 e)

pub mark_none : (t : List ℕ) (p : ℕ) → (get_or t p 0 ≡ 512 → ⊥) → mark_at t p ≡ false
unfolding mark_at
mark_none t p e = ap (both (leb first_marker p)) (ne_eqb (get_or t p 0) 512 e) ∙ both_never (leb first_marker p)

-- none below cell 7
pub mark_low : (t : List ℕ) (p : ℕ) → p < 7 → mark_at t p ≡ false
unfolding mark_at
mark_low t p h = ap (λ (b : Bool). both b (eqb (get_or t p 0) 512)) (lt-leb 7 p h)
