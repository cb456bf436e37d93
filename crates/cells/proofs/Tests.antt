-- What a branch of the code says of the tests of the model.
use Prim.Native.Nat.{ℕ}
use mathlib.Core.Bool.{Bool, true, false, false≢true}
use mathlib.Core.Path.{◌≡◌, refl, ap}
use native.Mathlib.Omega.{arith}
use lib.Dec.{ltb}
use Rattle.cells.specs.Cells.{pick, both}
use borrow.Author.Tests.{lt-ltb, le-ltb, le-leb, lt-leb, eq-eqb, ne_eqb}

pub zero-ltb : (n : ℕ) → n ≡ 0 → ltb 0 n ≡ false
zero-ltb n e = le-ltb 0 n (omega arith)

pub nonzero_ltb : (n : ℕ) → (n ≡ 0 → ⊥) → ltb 0 n ≡ true
nonzero_ltb n h = lt-ltb 0 n (omega arith)

-- `search tests` gives each test of the model the value that the branches on the way decide
pub ruleset tests = (lt-ltb, le-ltb, le-leb, lt-leb, eq-eqb, ne_eqb, zero-ltb, nonzero_ltb)

-- what holds of both sides of a choice holds of the choice
pub pick_all : {A : Type 0} (P : A → Type 0) (b : Bool) {x y : A} → P x → P y → P (pick b x y)
pick_all P true p q = p
pick_all P false p q = q

-- both of two tests
pub first_of : (a b : Bool) → both a b ≡ true → a ≡ true
first_of true b e = refl
first_of false b e = absurd (false≢true e)

pub second_of : (a b : Bool) → both a b ≡ true → b ≡ true
second_of true b e = e
second_of false b e = absurd (false≢true e)

pub both_of : {a b : Bool} → a ≡ true → b ≡ true → both a b ≡ true
both_of p q = λ i. both (p i) (q i)

-- a choice whose test is known
pub first_picked : {A : Type 0} (b : Bool) (x y : A) → b ≡ true → pick b x y ≡ x
first_picked b x y e = ap (λ (c : Bool). pick c x y) e

pub second_picked : {A : Type 0} (b : Bool) (x y : A) → b ≡ false → pick b x y ≡ y
second_picked b x y e = ap (λ (c : Bool). pick c x y) e
