-- Lists of bytes, by the test of what a host can lend: parts and overlays of bytes are bytes, so is every low byte of a cell.
use Prim.Native.Nat.{ℕ, zero, suc, ◌+◌, ◌%◌, ◌/◌, ◌<◌}
use mathlib.Core.Path.{◌≡◌, refl}
use mathlib.Core.Bool.{true}
use mathlib.Core.List.{List, [], ◌∷◌, ◌++◌}
use native.Mathlib.Omega.{arith}
use lib.ListN.{length, take, drop}
use lib.Dec.{ltb}
use borrow.Author.Tests.{lt-ltb, ltb-true}
use Rattle.cells.specs.Cells.{overlay, bytes_of}
use Rattle.cells.proofs.Numbers.{Bytes}
use Rattle.cells.proofs.Tests.{first_of, second_of, both_of}
use Rattle.areas.specs.declared.{Area.Area}
use Rattle.areas.specs.Areas.{area_cells, area_bytes}
use Rattle.claim_box.specs.Boxes.{all_under}

module _ (n : ℕ) where
  pub under-append : (x y : List ℕ) → all_under n x ≡ true → all_under n y ≡ true → all_under n (x ++ y) ≡ true
  unfolding all_under
  under-append [] y p q = q
  under-append (a ∷ x) y p q = both_of (first_of (ltb a n) _ p) (under-append x y (second_of (ltb a n) _ p) q)

  pub under-take : (k : ℕ) (x : List ℕ) → all_under n x ≡ true → all_under n (take k x) ≡ true
  unfolding all_under
  under-take zero [] p = refl
  under-take zero (a ∷ x) p = refl
  under-take (suc k) [] p = refl
  under-take (suc k) (a ∷ x) p = both_of (first_of (ltb a n) _ p) (under-take k x (second_of (ltb a n) _ p))

  under_drop : (k : ℕ) (x : List ℕ) → all_under n x ≡ true → all_under n (drop k x) ≡ true
  unfolding all_under
  under_drop zero [] p = refl
  under_drop zero (a ∷ x) p = p
  under_drop (suc k) [] p = refl
  under_drop (suc k) (a ∷ x) p = under_drop k x (second_of (ltb a n) _ p)

  pub under-overlay : (l : List ℕ) (at : ℕ) (v : List ℕ) → all_under n l ≡ true → all_under n v ≡ true → all_under n (overlay l at v) ≡ true
  unfolding overlay
  under-overlay l at v p q =
      under-append (take at l ++ v) _ (under-append (take at l) v (under-take at l p) q) (under_drop (at + length v) l p)

-- the two bytes of a number
pub high_byte : (n : ℕ) → n < 65536 → ltb (n / 256) 256 ≡ true
high_byte n h = lt-ltb (n / 256) 256 (omega arith)

pub low_byte : (n : ℕ) → ltb (n % 256) 256 ≡ true
low_byte n = lt-ltb (n % 256) 256 (omega arith)

-- each is a byte
pub under-bytes : (l : List ℕ) → all_under 256 l ≡ true → Bytes l
unfolding all_under
under-bytes [] p i = omega arith
under-bytes (a ∷ l) p zero = ltb-true a 256 (first_of (ltb a 256) _ p)
under-bytes (a ∷ l) p (suc i) = under-bytes l (second_of (ltb a 256) _ p) i

pub bytes-under : (l : List ℕ) → Bytes l → all_under 256 l ≡ true
unfolding all_under
bytes-under [] b = refl
bytes-under (a ∷ l) b = both_of (lt-ltb a 256 (b 0)) (bytes-under l (λ i. b (suc i)))

-- the low bytes of cells
low_bytes_lem : (t : List ℕ) → all_under 256 (bytes_of t) ≡ true
unfolding all_under bytes_of
low_bytes_lem [] = refl
low_bytes_lem (x ∷ t) = both_of (low_byte x) (low_bytes_lem t)

pub area-under : (t : List ℕ) (a : Area) → all_under 256 (area_bytes t a) ≡ true
unfolding area_bytes
area-under t a = under-take 256 a.bytes (bytes_of (area_cells t a)) (low_bytes_lem (area_cells t a))
