-- A test that antt computes for every number below n, and what it says of each of them.
use mathlib.Core.Path.{◌≡◌, sym, subst}
use mathlib.Core.Bool.{Bool, true}
use Prim.Native.Nat.{ℕ, zero, suc, ◌<◌}
use native.Mathlib.Omega.{arith}
use native.Mathlib.Decide.{ℕ_discrete}
use Rattle.cells.specs.Cells.{both}
use Rattle.cells.proofs.Tests.{first_of, second_of}

abbrev pub all_below : ℕ → (ℕ → Bool) → Bool
all_below zero t = true
all_below (suc n) t = both (t n) (all_below n t)

-- below n + 1 is n or below n
at_most : (n k : ℕ) (P : ℕ → Type 0) → P n → (k < n → P k) → k < suc n → P k
at_most n k P p q l = go (ℕ_discrete k n)
  where
    go : Dec (k ≡ n) → P k
    go (yes e) = subst P (sym e) p
    go (no e) = q (omega arith)

pub below : (n : ℕ) (t : ℕ → Bool) → all_below n t ≡ true → (k : ℕ) → k < n → t k ≡ true
below zero t h k l = absurd (omega arith)
below (suc n) t h k l =
    at_most n k (λ m. t m ≡ true) (first_of (t n) (all_below n t) h) (below n t (second_of (t n) (all_below n t) h) k) l
