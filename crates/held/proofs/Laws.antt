-- Laws of the held state's bytes: zeros asked for by the library, two stores that make all 64.
use Prim.Native.Nat.{ℕ}
use mathlib.Core.Path.{◌≡◌, refl, ap₂}
use mathlib.Core.Bool.{Bool, true, false, ◌&&◌}
use mathlib.Core.List.{List, [], ◌∷◌, ◌++◌}
use lib.ListN.{replicate}
use lib.Dec.{eqb}
use Rattle.std.specs.List.{list_all}
use Rattle.cells.specs.Cells.{both, part}
use Rattle.held.specs.declared.{Held.Held}
use Rattle.held.specs.Held.{encoded, all_zero}

both_is_and : (a b : Bool) → both a b ≡ (a && b)
both_is_and true b = refl
both_is_and false b = refl

-- that all bytes are zeros, in the library's word
pub zeros_are : (v : List ℕ) → all_zero v ≡ list_all (λ b. eqb b 0) v
unfolding all_zero
zeros_are [] = refl
zeros_are (b ∷ v) = rw (← zeros_are v) (both_is_and (eqb b 0) (all_zero v))

-- the first 24 bytes, and the zeros behind them
pub all_stored : (h : Held) (first rest : List ℕ) → first ≡ part (encoded h) 0 24 → rest ≡ replicate 40 0 → first ++ rest ≡ encoded h
unfolding encoded part
all_stored h first rest p q = ap₂ (λ (x y : List ℕ). x ++ y) p q
