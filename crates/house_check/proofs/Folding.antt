-- A word may be put by xor into words that follow it, and be left out. Both ways to work out what is left go over an xor, so they are the same
-- if they are on the 64 powers of two: one computed test for each fold, by the table, which antt reads faster than it counts bits.
use mathlib.Core.Path.{◌≡◌, refl, sym, ap, ap₂, ◌∙◌, subst}
use mathlib.Core.Bool.{true}
use mathlib.Core.List.{List, ◌++◌}
use Prim.Native.Nat.{ℕ, ◌*◌, ◌/◌, ◌^◌, ◌<◌}
use lib.Dec.{eqb, lit<}
use lib.Bits.{bit_xor, xor_zero_l, xor_zero_r}
use Rattle.cells.specs.Cells.{bytes_of}
use Rattle.house_check.specs.Check.{bit_step, feed, byte_bits, bits, check}
use Rattle.house_check.specs.Table.{remainders, table_step, table_feed}
use Rattle.house_check.specs.Fold.{cells_in, low_bytes, bytes_in, up, spill, back, spread}
use Rattle.house_check.proofs.Window.{feed-append}
use Rattle.house_check.proofs.Bits.{bits-append}
use Rattle.house_check.proofs.Linear.{zip_xor}
use Rattle.house_check.proofs.Below.{all_below}
use Rattle.house_check.proofs.Cells.{bytes_Bytes}
use Rattle.house_check.proofs.Table.{table_feed_lem}
use Rattle.house_check.proofs.Words.{low_alone}
use Rattle.house_check.proofs.Powers.{Linear, Lines, same_word, same_linear, none_linear, shr_linear, up_linear, xor_linear, after, append_lines, lines_after, cells_lines, word_lines, low_lines, check-xor, check_linear}

pub check_low : (v : List ℕ) → check (bytes_of v) ≡ check v
unfolding check
check_low v = ap (feed 0) (low_alone v)

by_table : check ≡ (λ v. table_feed 0 (bytes_of v))
unfolding check
by_table = λ i v. (sym (check_low v) ∙ sym (table_feed_lem (bytes_of v) 0 (bytes_Bytes v) (lit< tt))) i

same_checks : (h k : ℕ → List ℕ) → Lines h → Lines k
    → all_below 64 (λ n. eqb (table_feed 0 (bytes_of (h (2 ^ n)))) (table_feed 0 (bytes_of (k (2 ^ n))))) ≡ true → (x : ℕ) → x < 2 ^ 64 → check (h x) ≡ check (k x)
same_checks h k H K t =
    same_word (λ x. check (h x)) (λ x. check (k x)) (check_linear h H) (check_linear k K)
    (subst (λ (c : List ℕ → ℕ). all_below 64 (λ n. eqb (c (h (2 ^ n))) (c (k (2 ^ n)))) ≡ true) (sym by_table) t)

-- ---- a word of four cells into the four words after it

five : ℕ → ℕ → ℕ → ℕ → ℕ → List ℕ
five a b c d w = cells_in a ++ (cells_in b ++ (cells_in c ++ (cells_in d ++ cells_in w)))

none_cells : Lines (λ x. cells_in 0)
none_cells = lines_after cells_in (λ x. 0) cells_lines none_linear

five_lines : (f g h k m : ℕ → List ℕ) → Lines f → Lines g → Lines h → Lines k → Lines m → Lines (λ x. f x ++ (g x ++ (h x ++ (k x ++ m x))))
five_lines f g h k m F G H K M =
    append_lines f (λ x. g x ++ (h x ++ (k x ++ m x))) F
    (append_lines g (λ x. h x ++ (k x ++ m x)) G (append_lines h (λ x. k x ++ m x) H (append_lines k m K M)))

alone_later : (x : ℕ) → x < 2 ^ 64 → check (five x 0 0 0 0) ≡ check (five 0 x (up 48 x) (x / 2 ^ 16) x)
unfolding five cells_in bytes_of table_feed table_step remainders
alone_later =
    same_checks (λ x. five x 0 0 0 0) (λ x. five 0 x (up 48 x) (x / 2 ^ 16) x)
    (five_lines cells_in (λ x. cells_in 0) (λ x. cells_in 0) (λ x. cells_in 0) (λ x. cells_in 0) cells_lines none_cells none_cells none_cells none_cells)
    (five_lines (λ x. cells_in 0) cells_in (λ x. cells_in (up 48 x)) (λ x. cells_in (x / 2 ^ 16)) cells_in none_cells cells_lines
    (lines_after cells_in (up 48) cells_lines (up_linear 48)) (lines_after cells_in (λ x. x / 2 ^ 16) cells_lines (shr_linear 16)) cells_lines)
    refl

five_xor : (a b c d w a' b' c' d' w' : ℕ)
    → five (bit_xor a a') (bit_xor b b') (bit_xor c c') (bit_xor d d') (bit_xor w w') ≡ zip_xor (five a b c d w) (five a' b' c' d' w')
unfolding five cells_in zip_xor
five_xor a b c d w a' b' c' d' w' =
    λ i. cells_lines.xor a a' i ++ (cells_lines.xor b b' i ++ (cells_lines.xor c c' i ++ (cells_lines.xor d d' i ++ cells_lines.xor w w' i)))

-- zeros in front make no difference
cells_before : (v : List ℕ) → check (cells_in 0 ++ v) ≡ check v
unfolding cells_in check bits byte_bits feed bit_step
cells_before v = refl

-- bytes onward others go into the register that those leave
check_more : (u v : List ℕ) → check (u ++ v) ≡ feed (check u) (bits v)
unfolding check
check_more u v = ap (feed 0) (bits-append u v) ∙ feed-append (bits u) (bits v) 0

pub folds : (a b c d w : ℕ) → a < 2 ^ 64
    → check (cells_in (bit_xor b a) ++ (cells_in (bit_xor c (up 48 a)) ++ (cells_in (bit_xor d (a / 2 ^ 16)) ++ cells_in (bit_xor w a))))
    ≡ feed (check (cells_in a ++ (cells_in b ++ (cells_in c ++ cells_in d)))) (bits (cells_in w))
unfolding five cells_in
folds a b c d w h =
    let others : List ℕ = five 0 b c d w in
    sym (cells_before (cells_in (bit_xor b a) ++ (cells_in (bit_xor c (up 48 a)) ++ (cells_in (bit_xor d (a / 2 ^ 16)) ++ cells_in (bit_xor w a)))))
    ∙ ap check (five_xor 0 b c d w 0 a (up 48 a) (a / 2 ^ 16) a)
    ∙ check-xor others (five 0 a (up 48 a) (a / 2 ^ 16) a) refl
    ∙ ap (bit_xor (check others)) (sym (alone_later a h))
    ∙ sym (check-xor others (five a 0 0 0 0) refl)
    ∙ ap check (sym (five_xor 0 b c d w a 0 0 0 0))
    ∙ (λ i. check (five (xor_zero_l a i) (xor_zero_r b i) (xor_zero_r c i) (xor_zero_r d i) (xor_zero_r w i)))
    ∙ check_more (cells_in a ++ (cells_in b ++ (cells_in c ++ cells_in d))) (cells_in w)

-- ---- bytes into as many after them

module _ (s : ℕ) where
  over_linear : Linear (spill s)
  unfolding spill
  over_linear = xor_linear (λ x. x / 2 ^ (4 * s)) (λ x. x / 2 ^ (11 * s)) (shr_linear (4 * s)) (shr_linear (11 * s))

  twice_linear : Linear (λ x. spill s (spill s x))
  twice_linear = after (spill s) (spill s) over_linear over_linear

  back_linear : Linear (back s)
  unfolding back
  back_linear =
      xor_linear (λ x. bit_xor (bit_xor x (spill s x)) (spill s (spill s x))) (λ x. spill s (spill s x) / 2 ^ (4 * s))
      (xor_linear (λ x. bit_xor x (spill s x)) (λ x. spill s (spill s x)) (xor_linear (λ x. x) (spill s) same_linear over_linear) twice_linear)
      (after (λ x. x / 2 ^ (4 * s)) (λ x. spill s (spill s x)) (shr_linear (4 * s)) twice_linear)

  spread_linear : Linear (spread s)
  unfolding spread
  spread_linear =
      after (λ y. bit_xor (bit_xor (up (12 * s) y) (up (5 * s) y)) y) (back s)
      (xor_linear (λ y. bit_xor (up (12 * s) y) (up (5 * s) y)) (λ y. y) (xor_linear (up (12 * s)) (up (5 * s)) (up_linear (12 * s)) (up_linear (5 * s))) same_linear)
      back_linear

none_bytes : Lines (λ x. bytes_in 0)
none_bytes = lines_after bytes_in (λ x. 0) word_lines none_linear

whole_onward : (x : ℕ) → x < 2 ^ 64 → check (bytes_in x ++ bytes_in 0) ≡ check (bytes_in (spread 4 x))
unfolding spread back spill bytes_in low_bytes bytes_of table_feed table_step remainders
whole_onward =
    same_checks (λ x. bytes_in x ++ bytes_in 0) (λ x. bytes_in (spread 4 x)) (append_lines bytes_in (λ x. bytes_in 0) word_lines none_bytes)
    (lines_after bytes_in (spread 4) word_lines (spread_linear 4)) refl

-- zeros in front make no difference
bytes_before : (v : List ℕ) → check (bytes_in 0 ++ v) ≡ check v
unfolding bytes_in low_bytes check bits byte_bits feed bit_step
bytes_before v = refl

two-xor : (x y x' y' : ℕ) → bytes_in (bit_xor x x') ++ bytes_in (bit_xor y y') ≡ zip_xor (bytes_in x ++ bytes_in y) (bytes_in x' ++ bytes_in y')
unfolding bytes_in low_bytes zip_xor
two-xor x y x' y' = λ i. word_lines.xor x x' i ++ word_lines.xor y y' i

-- the first eight of sixteen bytes
pub spreads : (x y : ℕ) → x < 2 ^ 64 → check (bytes_in (bit_xor y (spread 4 x))) ≡ check (bytes_in x ++ bytes_in y)
unfolding bytes_in low_bytes
spreads x y h =
    check_linear bytes_in word_lines y (spread 4 x)
    ∙ ap (bit_xor (check (bytes_in y))) (sym (whole_onward x h))
    ∙ ap (λ (n : ℕ). bit_xor n (check (bytes_in x ++ bytes_in 0))) (sym (bytes_before (bytes_in y)))
    ∙ sym (check-xor (bytes_in 0 ++ bytes_in y) (bytes_in x ++ bytes_in 0) refl)
    ∙ ap check (sym (two-xor 0 y x 0))
    ∙ (λ i. check (bytes_in (xor_zero_l x i) ++ bytes_in (xor_zero_r y i)))

-- the first four of eight
half : ℕ → ℕ
half x = bit_xor x (spread 2 (x / 2 ^ 32))

half_linear : Linear half
unfolding half
half_linear =
    xor_linear (λ x. x) (λ x. spread 2 (x / 2 ^ 32)) same_linear (after (spread 2) (λ x. x / 2 ^ 32) (spread_linear 2) (shr_linear 32))

pub spreads_half : (x : ℕ) → x < 2 ^ 64 → check (low_bytes (bit_xor x (spread 2 (x / 2 ^ 32)))) ≡ check (bytes_in x)
unfolding half spread back spill bytes_in low_bytes bytes_of table_feed table_step remainders
spreads_half = same_checks (λ x. low_bytes (half x)) bytes_in (lines_after low_bytes half low_lines half_linear) word_lines refl

-- ---- sixteen cells by their sixteen bytes

pub last_four : (a b c d x y p q : ℕ) → x < 2 ^ 64 → bit_xor y p < 2 ^ 64
    → bits (bytes_in x) ≡ bits (cells_in a ++ cells_in b) → bits (bytes_in y) ≡ bits (cells_in c ++ cells_in d)
    → p ≡ spread 4 x → q ≡ spread 2 (bit_xor y p / 2 ^ 32)
    → check (bytes_of (low_bytes (bit_xor (bit_xor y p) q))) ≡ check (cells_in a ++ (cells_in b ++ (cells_in c ++ cells_in d)))
unfolding check cells_in
last_four a b c d x y p q hx he ex ey ep eq =
    check_low (low_bytes (bit_xor (bit_xor y p) q))
    ∙ ap (λ (n : ℕ). check (low_bytes (bit_xor (bit_xor y p) n))) eq ∙ spreads_half (bit_xor y p) he
    ∙ ap (λ (n : ℕ). check (bytes_in (bit_xor y n))) ep ∙ spreads x y hx
    ∙ ap (feed 0)
    (bits-append (bytes_in x) (bytes_in y) ∙ ap₂ ◌++◌ ex ey ∙ sym (bits-append (cells_in a ++ cells_in b) (cells_in c ++ cells_in d)))
