-- What a computed test finds of every row of the table, and of the row of unknown codes, holds of the row of every code. A test of two bits is the table of its
-- four values.
use Prim.Native.Nat.{ℕ, zero, suc, ◌<◌}
use mathlib.Core.Path.{◌≡◌, refl}
use mathlib.Core.Bool.{Bool, true, false}
use mathlib.Core.List.{List, [], ◌∷◌}
use native.Mathlib.Omega.{arith}
use lib.ListN.{get_or}
use lib.Dec.{eqb}
use Rattle.cells.specs.Cells.{both}
use Rattle.cells.proofs.Tests.{pick_all, first_of, second_of}
use Rattle.table.specs.declared.{Rule.Rule}
use Rattle.table.specs.Table.{Entry, controls, searches, reads, writes, unknown, find, rule_of}

-- a test of every row
unfoldable pub each : (Rule → Bool) → List Entry → Bool
each p [] = true
each p (e ∷ l) = both (p e.rule) (each p l)

unfoldable pub every : (Rule → Bool) → Bool
every p = both (each p controls) (both (each p searches) (both (each p reads) (both (each p writes) (p unknown))))

found : (p : Rule → Bool) (c : ℕ) (l : List Entry) (other : Rule) → each p l ≡ true → p other ≡ true → p (find c l other) ≡ true
unfolding find each
found p c [] other h k = k
found p c (e ∷ l) other h k =
    pick_all (λ (r : Rule). p r ≡ true) (eqb c e.code) (first_of (p e.rule) _ h) (found p c l other (second_of (p e.rule) _ h) k)

pub of_every : (p : Rule → Bool) → every p ≡ true → (c : ℕ) → p (rule_of c) ≡ true
unfolding every rule_of
of_every p h c =
    let h1 = second_of (each p controls) _ h in
    let h2 = second_of (each p searches) _ h1 in
    let h3 = second_of (each p reads) _ h2 in
    found p c controls _ (first_of (each p controls) _ h)
    (found p c searches _ (first_of (each p searches) _ h1)
    (found p c reads _ (first_of (each p reads) _ h2) (found p c writes _ (first_of (each p writes) _ h3) (second_of (each p writes) _ h3))))

-- to unfold this is to unfold the whole table
unfoldable pub row_of_code : ℕ → Rule
unfolding rule_of find controls searches reads writes
row_of_code c = rule_of c

-- ---- two bits

pub tabled : (test : ℕ → Bool) (n : ℕ) → n < 4 → test n ≡ get_or (test 0 ∷ test 1 ∷ test 2 ∷ test 3 ∷ []) n false
tabled test zero h = refl
tabled test (suc zero) h = refl
tabled test (suc (suc zero)) h = refl
tabled test (suc (suc (suc zero))) h = refl
tabled test (suc (suc (suc (suc n)))) h = absurd (omega arith)
