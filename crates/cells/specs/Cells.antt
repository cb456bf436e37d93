-- What every other crate's model is written with: a choice by a test; lists of numbers, fields of several bytes, unsigned numbers; cells. Document 01,
-- "What the box stands in for"; REFERENCE 2.2: a track is 4,096 cells, each a number 256 k + b. k = 1 is a recorded byte b; from cell 7 on, 512 is an
-- address marker; anything else is gap, written as 0.
use Rattle.std.specs.Prelude.{Bool, true, false, ℕ, zero, suc, ◌+◌, ◌*◌, ◌/◌, ◌%◌, List, [], ◌∷◌, ◌++◌, map, length, get_or, take, drop, leb, eqb}

abbrev pub pick : {A : Type 0} → Bool → A → A → A
pick true a b = a
pick false a b = b

abbrev pub both : Bool → Bool → Bool
both a b = pick a b false

abbrev pub either : Bool → Bool → Bool
either a b = pick a true b

-- n elements of l from an index on
unfoldable pub part : List ℕ → ℕ → ℕ → List ℕ
part l at n = take n (drop at l)

-- l with the elements of v from an index on
unfoldable pub overlay : List ℕ → ℕ → List ℕ → List ℕ
overlay l at v = take at l ++ v ++ drop (at + length v) l

-- n bytes of v: missing bytes are zeros, surplus is left
unfoldable pub padded : ℕ → List ℕ → List ℕ
padded zero v = []
padded (suc n) [] = 0 ∷ padded n []
padded (suc n) (b ∷ v) = b ∷ padded n v

-- fields of two and of three bytes, high byte first
abbrev pub be16 : List ℕ → ℕ → ℕ
be16 s at = get_or s at 0 * 256 + get_or s (at + 1) 0

abbrev pub be24 : List ℕ → ℕ → ℕ
be24 s at = get_or s at 0 * 65536 + get_or s (at + 1) 0 * 256 + get_or s (at + 2) 0

-- bytes as one unsigned number, after those that came to n
unfoldable pub number_from : ℕ → List ℕ → ℕ
number_from n [] = n
number_from n (b ∷ v) = number_from (n * 256 + b) v

abbrev pub number : List ℕ → ℕ
number v = number_from 0 v

abbrev pub track_cells : ℕ
track_cells = 4096

-- the first cell that can hold a marker: the home address lies before it, and R0 begins here
abbrev pub first_marker : ℕ
first_marker = 7

abbrev pub marker : ℕ
marker = 512

abbrev pub gap : ℕ
gap = 0

-- a recorded byte, and the byte recorded
abbrev pub is_byte : ℕ → Bool
is_byte x = eqb (x / 256) 1

abbrev pub byte_of : ℕ → ℕ
byte_of x = x % 256

abbrev pub cell_of : ℕ → ℕ
cell_of b = 256 + b

unfoldable pub bytes_of : List ℕ → List ℕ
bytes_of t = map byte_of t

unfoldable pub cells_of : List ℕ → List ℕ
cells_of v = map cell_of v

-- whether all are recorded bytes
unfoldable pub all_bytes : List ℕ → Bool
all_bytes [] = true
all_bytes (x ∷ t) = both (is_byte x) (all_bytes t)

-- whether cell i of a track holds a marker
unfoldable pub mark_at : List ℕ → ℕ → Bool
mark_at t i = both (leb first_marker i) (eqb (get_or t i gap) marker)

-- which cells hold a marker, of those from cell i on
unfoldable pub marks_from : ℕ → List ℕ → List Bool
marks_from i [] = []
marks_from i (x ∷ t) = both (leb first_marker i) (eqb x marker) ∷ marks_from (suc i) t

unfoldable pub marks : List ℕ → List Bool
marks t = marks_from 0 t
