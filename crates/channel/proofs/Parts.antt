-- A law of parts of lists.
use Prim.Native.Nat.{ℕ, ◌+◌, ◌≤◌}
use mathlib.Core.Path.{◌≡◌, sym, ap, ap₂, ◌∙◌}
use mathlib.Core.List.{List, ◌++◌, append_assoc}
use native.Mathlib.Omega.{arith}
use lib.ListN.{length, take, drop}
use lib.Seq.{length-take-le, take-append-le, drop-append-le, take-append-add, drop-append-add}
use Rattle.cells.specs.Cells.{overlay}
use Rattle.cells.proofs.Laws.{length-overlay}

-- what is laid over a part of what was laid is laid over that part first
module _ (l t y : List ℕ) (at a : ℕ) (inside : at + length t ≤ length l) (within : a + length y ≤ length t) where
  rest : List ℕ
  rest = drop (at + length t) l

  long : length (take at l) ≡ at
  long = length-take-le at l (omega (arith, inside))

  front : take (at + a) (take at l ++ t ++ rest) ≡ take at l ++ take a t
  front =
      ap (take (at + a)) (append_assoc (take at l) t rest)
      ∙ ap (λ (n : ℕ). take (n + a) (take at l ++ (t ++ rest))) (sym long)
      ∙ take-append-add (take at l) (t ++ rest) a
      ∙ ap (λ (x : List ℕ). take at l ++ x) (take-append-le a t rest (omega (arith, within)))

  back : drop (at + a + length y) (take at l ++ t ++ rest) ≡ drop (a + length y) t ++ rest
  back =
      ap (drop (at + a + length y)) (append_assoc (take at l) t rest)
      ∙ ap (λ (n : ℕ). drop n (take at l ++ (t ++ rest))) {x = at + a + length y} {y = length (take at l) + (a + length y)} (omega (arith, long))
      ∙ drop-append-add (take at l) (t ++ rest) (a + length y)
      ∙ drop-append-le (a + length y) t rest within

  pub overlay_inner : overlay (overlay l at t) (at + a) y ≡ overlay l at (overlay t a y)
  unfolding overlay rest
  overlay_inner =
      ap₂ (λ (x z : List ℕ). x ++ y ++ z) front back
      ∙ ap (λ (n : ℕ). take at l ++ take a t ++ y ++ (drop (a + length y) t ++ drop (at + n) l)) (sym (length-overlay t a y within))
      ∙ simp append_assoc
