-- Document 01, "What lies on a track"; REFERENCE 2.3, 2.4, 2.6: the home address, R0 and the records, where their areas lie, when an area is readable; flag
-- bytes. A record is known by the first cell of its count area: 7 for R0, the cell after the marker for any other.
use Rattle.std.specs.Prelude.{ℕ, ◌+◌, max, ◌-◌, ◌*◌, ◌/◌, ◌%◌, Bool, List, get_or, take, eqb, Some, None, Option}
use Rattle.cells.specs.Cells.{pick, be16, part, bytes_of}
use Rattle.house_check.specs.Check.{check_bytes, good_cells}
use Rattle.rows.specs.declared.{Row.Row}
-- Part: Home, Count, Key, Data. Area: part, first (its first cell), bytes (without the two of the check). Counts, what a count area says: flag, cc,
-- hh, r, kl, dl.
use Rattle.areas.specs.declared.{Part.Part, Area.Area, Counts.Counts}

-- ---- an area

-- its part, its first cell, and its bytes without the two of the check
abbrev pub area : Part → ℕ → ℕ → Area
area p f n = record { part = p; first = f; bytes = n }

unfoldable pub area_cells : List ℕ → Area → List ℕ
area_cells t a = part t a.first (a.bytes + check_bytes)

-- all its cells lie on the track and have k = 1, and the check agrees
unfoldable pub readable : List ℕ → Area → Bool
readable t a = good_cells a.bytes (area_cells t a)

-- its bytes, without the check
unfoldable pub area_bytes : List ℕ → Area → List ℕ
area_bytes t a = take a.bytes (bytes_of (area_cells t a))

-- the Unit Check row of an area that is not readable
unfoldable pub row_of : Part → Row
row_of Part.Home = Row.Unreadable
row_of Part.Count = Row.UnreadableCount
row_of Part.Key = Row.Unreadable
row_of Part.Data = Row.Unreadable

-- ---- home address: flag, cylinder (2 bytes), head (2)

abbrev pub home_bytes : ℕ
home_bytes = 5

abbrev pub home_area : Area
home_area = area Part.Home 0 home_bytes

-- its flag byte
abbrev pub home_flag : List ℕ → ℕ
home_flag t = get_or (area_bytes t home_area) 0 0

-- R0's count area begins right after the home address
abbrev pub r0_first : ℕ
r0_first = home_bytes + check_bytes

-- ---- count area: flag, CC (2), HH (2), R, KL, DL (2)

abbrev pub count_bytes : ℕ
count_bytes = 9

abbrev pub count_cells : ℕ
count_cells = count_bytes + check_bytes

abbrev pub count_area : ℕ → Area
count_area c = area Part.Count c count_bytes

unfoldable pub counts_of : List ℕ → Counts
counts_of v = record {
  flag = get_or v 0 0;
  cc = be16 v 1;
  hh = be16 v 3;
  r = get_or v 5 0;
  kl = get_or v 6 0;
  dl = be16 v 7;
}

-- by its flag and by each of the bytes behind it
unfoldable pub counts_by : ℕ → (ℕ → ℕ) → Counts
counts_by flag b = record { flag = flag; cc = b 0 * 256 + b 1; hh = b 2 * 256 + b 3; r = b 4; kl = b 5; dl = b 6 * 256 + b 7 }

-- the count area at c as it stands there
unfoldable pub counts_at : List ℕ → ℕ → Counts
counts_at t c = counts_of (area_bytes t (count_area c))

-- a count is used only if its area is readable
unfoldable pub read_count : List ℕ → ℕ → Option Counts
read_count t c = pick (readable t (count_area c)) (Some (counts_at t c)) None

-- ---- key area KL + 2 bytes, absent if KL = 0; data area DL + 2, one zero byte and the check if DL = 0

unfoldable pub key_cells : Counts → ℕ
key_cells n = pick (eqb n.kl 0) 0 (n.kl + check_bytes)

abbrev pub data_bytes : Counts → ℕ
data_bytes n = max 1 n.dl

unfoldable pub key_area : ℕ → Counts → Area
key_area c n = area Part.Key (c + count_cells) n.kl

unfoldable pub data_area : ℕ → Counts → Area
data_area c n = area Part.Data (c + count_cells + key_cells n) (data_bytes n)

-- ---- a record, from its count area on

unfoldable pub record_cells : Counts → ℕ
record_cells n = count_cells + key_cells n + (data_bytes n + check_bytes)

-- the cell after the record whose count area is at c
unfoldable pub end_by : ℕ → Counts → ℕ
end_by c n = c + record_cells n

-- what a new record needs: its marker too
unfoldable pub needed : Counts → ℕ
needed n = 1 + record_cells n

-- ---- flag bytes: bit 0 is the odd/even bit, bits 1 to 5 are 0, bits 6 and 7 are copied; bit 0 is the leftmost (DECISIONS 29)

abbrev pub odd_even : ℕ → ℕ
odd_even f = f / 128

abbrev pub copied : ℕ → ℕ
copied f = f % 4

-- R0's: bit 0 is 0; bits 6 and 7 copy the home address's
unfoldable pub flag_of_r0 : ℕ → ℕ
flag_of_r0 home = copied home

-- a later record's: bit 0 is opposite to the record before, bits 6 and 7 copy that record's
unfoldable pub flag_after : ℕ → ℕ
flag_after before = (1 - odd_even before) * 128 + copied before
