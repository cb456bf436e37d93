-- Cells in words of 64 bits, and what a word is worth further on. Modulo the check's polynomial x^16 is x^12 + x^5 + 1; squared once, twice and
-- three times, this says the same of 32, 64 and 128 bits. Cited by private functions alone.
use Rattle.std.specs.Prelude.{List, [], ◌∷◌, ◌++◌, ℕ, ◌*◌, ◌/◌, ◌%◌, ◌^◌}
use Rattle.std.specs.Int.Bits.{bit_xor}
-- Rest: four words, a, b, c, d.
use Rattle.house_check.specs.declared.{Rest.Rest}

-- the four cells of a word, the first of them the lowest; of a cell only the low byte counts
unfoldable pub cells_in : ℕ → List ℕ
cells_in w = w ∷ w / 2 ^ 16 ∷ w / 2 ^ 32 ∷ w / 2 ^ 48 ∷ []

-- sixteen cells
unfoldable pub rest : Rest → List ℕ
rest s = cells_in s.a ++ (cells_in s.b ++ (cells_in s.c ++ cells_in s.d))

-- the low four bytes of a word, and all eight, the first of them the highest
unfoldable pub low_bytes : ℕ → List ℕ
low_bytes w = w / 2 ^ 24 ∷ w / 2 ^ 16 ∷ w / 2 ^ 8 ∷ w ∷ []

unfoldable pub bytes_in : ℕ → List ℕ
bytes_in w = low_bytes (w / 2 ^ 32) ++ low_bytes w

-- shifted up in 64 bits
abbrev pub up : ℕ → ℕ → ℕ
up k x = x * 2 ^ k % 2 ^ 64

-- a word taken 16 s bits on, by x^(16 s) = x^(12 s) + x^(5 s) + 1: of 64 bits with s = 4, of 32 with s = 2. What goes over at the top comes back
-- the same way, three times at most.
unfoldable pub spill : ℕ → ℕ → ℕ
spill s x = bit_xor (x / 2 ^ (4 * s)) (x / 2 ^ (11 * s))

unfoldable pub back : ℕ → ℕ → ℕ
back s x = bit_xor (bit_xor (bit_xor x (spill s x)) (spill s (spill s x))) (spill s (spill s x) / 2 ^ (4 * s))

unfoldable pub spread : ℕ → ℕ → ℕ
spread s x = bit_xor (bit_xor (up (12 * s) (back s x)) (up (5 * s) (back s x))) (back s x)
