-- Cells in a word: of each only the low byte counts, and the word's shifts find it.
use mathlib.Core.Path.{◌≡◌, refl, sym, ap, ap₂, ◌∙◌}
use mathlib.Core.List.{List, [], ◌∷◌, ◌++◌}
use Prim.Native.Nat.{ℕ, zero, suc, ◌+◌, ◌*◌, ◌/◌, ◌%◌, ◌^◌, ◌<◌}
use native.Mathlib.Omega.{arith}
use lib.ListN.{length, take, drop, get_or, take-append-drop}
use lib.Seq.{drop-drop}
use Rattle.std.specs.Int.{w64, from_be_bytes}
use Rattle.std.specs.List.{fold}
use Rattle.std.specs.Simd.{first_chunks}
use Rattle.cells.specs.Cells.{bytes_of}
use Rattle.house_check.specs.Check.{feed, byte_bits, bits}
use Rattle.house_check.specs.Fold.{cells_in, low_bytes, bytes_in}
use Rattle.house_check.proofs.Window.{feed-append}
use Rattle.house_check.proofs.Bits.{bits-append}
use Rattle.house_check.proofs.Cells.{low_bits}

same_low : (x y : ℕ) (u v : List ℕ) → x % 256 ≡ y % 256 → bits u ≡ bits v → bits (x ∷ u) ≡ bits (y ∷ v)
unfolding bits
same_low x y u v e t = sym (low_bits x (bits u)) ∙ ap₂ byte_bits e t ∙ low_bits y (bits v)

-- of a cell only the low byte goes into the register
pub low_alone : (l : List ℕ) → bits (bytes_of l) ≡ bits l
unfolding bytes_of
low_alone [] = refl
low_alone (c ∷ l) = same_low (c % 256) c (bytes_of l) l (omega arith) (low_alone l)

same_four : (a b c d a' b' c' d' : ℕ) → a % 256 ≡ a' % 256 → b % 256 ≡ b' % 256 → c % 256 ≡ c' % 256 → d % 256 ≡ d' % 256
    → bits (a ∷ b ∷ c ∷ d ∷ []) ≡ bits (a' ∷ b' ∷ c' ∷ d' ∷ [])
same_four a b c d a' b' c' d' p q r s =
    same_low a a' (b ∷ c ∷ d ∷ []) (b' ∷ c' ∷ d' ∷ []) p
    (same_low b b' (c ∷ d ∷ []) (c' ∷ d' ∷ []) q (same_low c c' (d ∷ []) (d' ∷ []) r (same_low d d' [] [] s refl)))

-- four cells put into a word
pub word_cells : (l : List ℕ) → length l ≡ 4 → ((i : ℕ) → get_or l i 0 < 65536)
    → bits (cells_in (get_or l 0 0 + get_or l 1 0 * 65536 + get_or l 2 0 * 4294967296 + get_or l 3 0 * 281474976710656)) ≡ bits l
unfolding cells_in
word_cells [] e h = absurd (omega arith)
word_cells (a ∷ []) e h = absurd (omega arith)
word_cells (a ∷ b ∷ []) e h = absurd (omega arith)
word_cells (a ∷ b ∷ c ∷ []) e h = absurd (omega arith)
word_cells (a ∷ b ∷ c ∷ d ∷ x ∷ l) e h = absurd (omega arith)
word_cells (a ∷ b ∷ c ∷ d ∷ []) e h =
    let w : ℕ = a + b * 65536 + c * 4294967296 + d * 281474976710656 in
    let ha : a < 65536 = h 0 in
    let hb : b < 65536 = h 1 in
    let hc : c < 65536 = h 2 in
    let hd : d < 65536 = h 3 in
    same_four w (w / 2 ^ 16) (w / 2 ^ 32) (w / 2 ^ 48) a b c d (omega arith) (omega arith) (omega arith) (omega arith)

-- four bytes put into a number
bytes_in_lem : (a b c d : ℕ) → a < 256 → b < 256 → c < 256 → d < 256 → bits (low_bytes (a * 16777216 + b * 65536 + c * 256 + d)) ≡ bits (a ∷ b ∷ c ∷ d ∷ [])
unfolding low_bytes
bytes_in_lem a b c d ha hb hc hd =
    let r : ℕ = a * 16777216 + b * 65536 + c * 256 + d in
    same_four (r / 2 ^ 24) (r / 2 ^ 16) (r / 2 ^ 8) r a b c d (omega arith) (omega arith) (omega arith) (omega arith)

-- the bytes of a word's four cells
half : ℕ → ℕ
half w = w % 256 * 16777216 + w / 65536 % 256 * 65536 + w / 4294967296 % 256 * 256 + w / 281474976710656 % 256

half_bytes : (w : ℕ) → bits (low_bytes (half w)) ≡ bits (cells_in w)
unfolding half cells_in
half_bytes w =
    bytes_in_lem (w % 256) (w / 65536 % 256) (w / 4294967296 % 256) (w / 281474976710656 % 256) (omega arith) (omega arith) (omega arith) (omega arith)
    ∙ same_four (w % 256) (w / 65536 % 256) (w / 4294967296 % 256) (w / 281474976710656 % 256) w (w / 2 ^ 16) (w / 2 ^ 32) (w / 2 ^ 48)
    (omega arith) (omega arith) (omega arith) (omega arith)

half_lt : (w : ℕ) → half w < 2 ^ 32
unfolding half
half_lt w = omega arith

-- four bytes and four more
bytes-both : (x y : ℕ) → y < 2 ^ 32 → bits (bytes_in (x * 4294967296 + y)) ≡ bits (low_bytes x) ++ bits (low_bytes y)
unfolding bytes_in low_bytes
bytes-both x y h =
    let w : ℕ = x * 4294967296 + y in
    let e : w / 2 ^ 32 ≡ x = omega arith in
    bits-append (low_bytes (w / 2 ^ 32)) (low_bytes w)
    ∙ ap₂ ◌++◌ (ap (λ (n : ℕ). bits (low_bytes n)) e)
    (same_four (w / 2 ^ 24) (w / 2 ^ 16) (w / 2 ^ 8) w (y / 2 ^ 24) (y / 2 ^ 16) (y / 2 ^ 8) y (omega arith) (omega arith) (omega arith) (omega arith))

halves : (a b c d e f g h : ℕ)
    → from_be_bytes w64 (a ∷ b ∷ c ∷ d ∷ e ∷ f ∷ g ∷ h ∷ [])
    ≡ (a * 16777216 + b * 65536 + c * 256 + d) * 4294967296 + (e * 16777216 + f * 65536 + g * 256 + h)
halves a b c d e f g h = omega arith

abbrev pub every_second : ℕ → List ℕ
every_second w = w % 256 ∷ w / 65536 % 256 ∷ w / 4294967296 % 256 ∷ w / 281474976710656 % 256 ∷ []

-- every second byte of two words, as one number
pub packed_bytes : (v w : ℕ)
    → bits (bytes_in (from_be_bytes w64 (every_second v ++ every_second w))) ≡ bits (cells_in v ++ cells_in w)
unfolding half
packed_bytes v w =
    ap (λ (n : ℕ). bits (bytes_in n)) (halves _ _ _ _ _ _ _ _)
    ∙ bytes-both (half v) (half w) (half_lt w) ∙ ap₂ ◌++◌ (half_bytes v) (half_bytes w) ∙ sym (bits-append (cells_in v) (cells_in w))

-- ---- cells four at a time

-- four cells more
four_more : (l : List ℕ) (r : ℕ) → feed r (bits (bytes_of l)) ≡ feed (feed r (bits (take 4 l))) (bits (bytes_of (drop 4 l)))
four_more l r =
    ap (feed r) (low_alone l ∙ ap bits (sym (take-append-drop 4 l)) ∙ bits-append (take 4 l) (drop 4 l))
    ∙ feed-append (bits (take 4 l)) (bits (drop 4 l)) r
    ∙ ap (feed (feed r (bits (take 4 l)))) (sym (low_alone (drop 4 l)))

-- so many fours, and the cells behind them
pub by_fours : (k : ℕ) (l : List ℕ) (r : ℕ)
    → feed (fold (λ r c. feed r (bits c)) r (first_chunks 4 k l)) (bits (bytes_of (drop (k * 4) l))) ≡ feed r (bits (bytes_of l))
by_fours zero l r = refl
by_fours (suc k) l r =
    let r' : ℕ = feed r (bits (take 4 l)) in
    let n : suc k * 4 ≡ 4 + k * 4 = omega arith in
    ap (λ (v : List ℕ). feed (fold (λ r c. feed r (bits c)) r' (first_chunks 4 k (drop 4 l))) (bits (bytes_of v)))
    (ap (λ (n : ℕ). drop n l) n ∙ sym (drop-drop (k * 4) 4 l))
    ∙ by_fours k (drop 4 l) r' ∙ sym (four_more l r)
