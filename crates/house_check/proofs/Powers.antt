-- A function that goes over an xor, as shifts and remainders do, is told by what it makes of the powers of two. So two ways to work out a
-- remainder from a word are the same if they are on 64 words.
use mathlib.Core.Path.{◌≡◌, refl, sym, ap, ap₂, ◌∙◌}
use mathlib.Core.Bool.{true}
use mathlib.Core.List.{List, [], ◌∷◌, ◌++◌}
use Prim.Native.Nat.{ℕ, zero, suc, ◌+◌, ◌*◌, ◌/◌, ◌%◌, ◌^◌, ◌<◌}
use native.Mathlib.Nat.{add-zero, add_comm, mod-lt, one-mul, zero-mul}
use native.Mathlib.Numerals.{add-one}
use native.Mathlib.Omega.{arith}
use lib.Dec.{eqb, lit<}
use borrow.Author.Tests.{eqb-true}
use lib.Pow.{pow_pos, split, shr_lt}
use lib.ListN.{length, length-append}
use lib.Bits.{bit_xor, xor_shr, xor_mod, xor_block, xor_shifted, xor_self}
use Rattle.house_check.specs.Check.{bits, feed, check}
use Rattle.house_check.specs.Fold.{up, cells_in, low_bytes, bytes_in}
use Rattle.house_check.proofs.Xor.{below2, xor_middle, xor_undo}
use Rattle.house_check.proofs.Bits.{bits_Bits, bits-length}
use Rattle.house_check.proofs.Linear.{zip_xor, feed-xor, bits-xor}
use Rattle.house_check.proofs.Below.{all_below, below}

abbrev pub Linear : (ℕ → ℕ) → Type 0
Linear f = (x y : ℕ) → f (bit_xor x y) ≡ bit_xor (f x) (f y)

-- ---- told by the powers of two

zero_to_zero : (f : ℕ → ℕ) → Linear f → f 0 ≡ 0
zero_to_zero f F = sym (xor_undo (f 0) (f 0)) ∙ ap (λ (x : ℕ). bit_xor x (f 0)) (sym (F 0 0)) ∙ xor_self (f 0)

module _ (f g : ℕ → ℕ) (F : Linear f) (G : Linear g) where
  none : f 0 ≡ g 0
  none = zero_to_zero f F ∙ sym (zero_to_zero g G)

  -- a number is its top digit and the rest
  same_below : (n : ℕ) → ((k : ℕ) → k < n → f (2 ^ k) ≡ g (2 ^ k)) → (x : ℕ) → x < 2 ^ n → f x ≡ g x
  same_below zero h x l = let e : x ≡ 0 = omega arith in ap f e ∙ none ∙ ap g (sym e)
  same_below (suc n) h x l =
      let a : ℕ = x / 2 ^ n in
      let y : ℕ = x % 2 ^ n in
      let small : y < 2 ^ n = mod-lt x (pow_pos n) in
      let e : bit_xor (a * 2 ^ n) y ≡ x = xor_shifted a n y small ∙ split x n in
      let top : f (a * 2 ^ n) ≡ g (a * 2 ^ n) =
      below2 (λ b. f (b * 2 ^ n) ≡ g (b * 2 ^ n)) (ap f (zero-mul (2 ^ n)) ∙ none ∙ ap g (sym (zero-mul (2 ^ n))))
      (ap f (one-mul (2 ^ n)) ∙ h n (omega arith) ∙ ap g (sym (one-mul (2 ^ n)))) a (shr_lt 1 n (rw (add_comm 1 n, add-one) l)) in
      ap f (sym e) ∙ F (a * 2 ^ n) y
      ∙ ap₂ bit_xor top (same_below n (λ k l. h k (omega arith)) y small)
      ∙ sym (G (a * 2 ^ n) y) ∙ ap g e

  pub same_word : all_below 64 (λ k. eqb (f (2 ^ k)) (g (2 ^ k))) ≡ true → (x : ℕ) → x < 2 ^ 64 → f x ≡ g x
  same_word t x l =
      same_below 64 (λ k h. eqb-true (f (2 ^ k)) (g (2 ^ k)) (below 64 (λ k. eqb (f (2 ^ k)) (g (2 ^ k))) t k h)) x l

-- ---- what goes over an xor

pub same_linear : Linear (λ x. x)
same_linear x y = refl

pub none_linear : Linear (λ x. 0)
none_linear x y = refl

pub shr_linear : (k : ℕ) → Linear (λ x. x / 2 ^ k)
shr_linear k x y = xor_shr x y k

pub up_linear : (k : ℕ) → Linear (up k)
up_linear k x y =
    ap (λ (z : ℕ). z % 2 ^ 64)
    (sym (add-zero (bit_xor x y * 2 ^ k)) ∙ sym (xor_block k x y 0 0 (pow_pos k) (pow_pos k)) ∙ ap₂ bit_xor (add-zero (x * 2 ^ k)) (add-zero (y * 2 ^ k)))
    ∙ xor_mod (x * 2 ^ k) (y * 2 ^ k) 64

pub xor_linear : (f g : ℕ → ℕ) → Linear f → Linear g → Linear (λ x. bit_xor (f x) (g x))
xor_linear f g F G x y = ap₂ bit_xor (F x y) (G x y) ∙ xor_middle (f x) (f y) (g x) (g y)

pub after : (f g : ℕ → ℕ) → Linear f → Linear g → Linear (λ x. f (g x))
after f g F G x y = ap f (G x y) ∙ F (g x) (g y)

-- ---- the same of lists

pub record Lines (h : ℕ → List ℕ) : Type 0 where
  pub long : (x y : ℕ) → length (h x) ≡ length (h y)
  pub xor : (x y : ℕ) → h (bit_xor x y) ≡ zip_xor (h x) (h y)

zip-append : (u v s t : List ℕ) → length u ≡ length v → zip_xor (u ++ s) (v ++ t) ≡ zip_xor u v ++ zip_xor s t
unfolding zip_xor
zip-append [] [] s t l = refl
zip-append [] (b ∷ v) s t l = absurd (omega arith)
zip-append (a ∷ u) [] s t l = absurd (omega arith)
zip-append (a ∷ u) (b ∷ v) s t l = ap (◌∷◌ (bit_xor a b)) (zip-append u v s t (omega arith))

pub append_lines : (h k : ℕ → List ℕ) → Lines h → Lines k → Lines (λ x. h x ++ k x)
append_lines h k H K = record {
  long = λ x y. length-append (h x) (k x) ∙ ap₂ ◌+◌ (H.long x y) (K.long x y) ∙ sym (length-append (h y) (k y));
  xor = λ x y. ap₂ ◌++◌ (H.xor x y) (K.xor x y) ∙ sym (zip-append (h x) (h y) (k x) (k y) (H.long x y));
}

pub lines_after : (h : ℕ → List ℕ) (f : ℕ → ℕ) → Lines h → Linear f → Lines (λ x. h (f x))
lines_after h f H F = record {
  long = λ x y. H.long (f x) (f y);
  xor = λ x y. ap h (F x y) ∙ H.xor (f x) (f y);
}

four : {a b c d a' b' c' d' : ℕ} → a ≡ a' → b ≡ b' → c ≡ c' → d ≡ d' → a ∷ b ∷ c ∷ d ∷ [] ≡ a' ∷ b' ∷ c' ∷ d' ∷ []
four p q r s = λ i. p i ∷ q i ∷ r i ∷ s i ∷ []

pub cells_lines : Lines cells_in
unfolding cells_in zip_xor
cells_lines = record {
  long = λ x y. refl;
  xor = λ x y. four refl (xor_shr x y 16) (xor_shr x y 32) (xor_shr x y 48);
}

pub low_lines : Lines low_bytes
unfolding low_bytes zip_xor
low_lines = record {
  long = λ x y. refl;
  xor = λ x y. four (xor_shr x y 24) (xor_shr x y 16) (xor_shr x y 8) refl;
}

pub word_lines : Lines bytes_in
unfolding bytes_in
word_lines = append_lines (λ x. low_bytes (x / 2 ^ 32)) low_bytes (lines_after low_bytes (λ x. x / 2 ^ 32) low_lines (shr_linear 32)) low_lines

-- ---- what bytes leave

pub check-xor : (u v : List ℕ) → length u ≡ length v → check (zip_xor u v) ≡ bit_xor (check u) (check v)
unfolding check
check-xor u v l =
    ap (feed 0) (bits-xor u v l)
    ∙ feed-xor (bits u) (bits v) 0 0 (bits-length u ∙ ap (◌*◌ 8) l ∙ sym (bits-length v)) (lit< tt) (lit< tt) (bits_Bits u) (bits_Bits v)

pub check_linear : (h : ℕ → List ℕ) → Lines h → Linear (λ x. check (h x))
check_linear h H x y = ap check (H.xor x y) ∙ check-xor (h x) (h y) (H.long x y)
