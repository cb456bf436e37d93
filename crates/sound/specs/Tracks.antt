-- Tracks that are soundly written (REFERENCE 2.7), and near misses.
use Rattle.std.specs.Prelude.{ℕ, ◌-◌, List, [], ◌∷◌, ◌++◌, length, set, replicate}
use Rattle.cells.specs.Cells.{track_cells, gap, marker}
use Rattle.house_check.specs.Check.{cells_with_check}

-- cells, and gaps to the track's end
unfoldable pub track_of : List ℕ → List ℕ
track_of used = used ++ replicate (track_cells - length used) gap

-- areas by their bytes: a home address; a count
unfoldable pub home_with : ℕ → List ℕ
home_with flag = cells_with_check (flag ∷ 0 ∷ 0 ∷ 0 ∷ 0 ∷ [])

unfoldable pub count_with : ℕ → ℕ → ℕ → ℕ → ℕ → List ℕ
count_with flag r kl dl1 dl2 = cells_with_check (flag ∷ 0 ∷ 0 ∷ 0 ∷ 0 ∷ r ∷ kl ∷ dl1 ∷ dl2 ∷ [])

-- the usual R0: no key, eight bytes
unfoldable pub usual_r0 : ℕ → List ℕ
usual_r0 flag = count_with flag 0 0 0 8 ++ cells_with_check (0 ∷ 0 ∷ 0 ∷ 0 ∷ 0 ∷ 0 ∷ 0 ∷ 0 ∷ [])

-- ---- soundly written

-- home address and R0 alone
unfoldable pub home_and_r0 : List ℕ
home_and_r0 = track_of (home_with 0 ++ usual_r0 0)

-- two records with keys, the second of DL 0, with bits 6 and 7 of every flag set
unfoldable pub keyed : List ℕ
keyed =
    track_of
    (home_with 0x03 ++ usual_r0 0x03
    ++ (marker ∷ count_with 0x83 1 2 0 3) ++ cells_with_check (0xC1 ∷ 0xC2 ∷ []) ++ cells_with_check (1 ∷ 2 ∷ 3 ∷ [])
    ++ (marker ∷ count_with 0x03 2 4 0 0) ++ cells_with_check (0xC1 ∷ 0xC2 ∷ 0xC3 ∷ 0xC4 ∷ []) ++ cells_with_check (0 ∷ []))

-- one record of DL 4,054 that takes all that is left: its cells before the data area, and the data area
unfoldable pub full_head : List ℕ
full_head = home_with 0 ++ usual_r0 0 ++ (marker ∷ count_with 0x80 1 0 0x0F 0xD6)

unfoldable pub full : List ℕ
full = full_head ++ cells_with_check (replicate 4054 0xE5)

-- ---- near misses: `right_track` or `home_and_r0`, but for one thing

-- a track with one record of key and data, by the flags of R0 and of the record, and what stands between and in its areas
unfoldable pub one_record : ℕ → ℕ → List ℕ → List ℕ → List ℕ → List ℕ
one_record flag0 flag1 between inside body =
    track_of (home_with 0x03 ++ usual_r0 flag0 ++ between ++ (marker ∷ count_with flag1 1 2 0 0) ++ inside ++ cells_with_check (0xC1 ∷ 0xC2 ∷ []) ++ body)

unfoldable pub right_track : List ℕ
right_track = one_record 0x03 0x83 [] [] (cells_with_check (0 ∷ []))

unfoldable pub near_misses : List (List ℕ)
near_misses =
    -- wrong bit 0, in R0 and in the record after it
    one_record 0x83 0x03 [] [] (cells_with_check (0 ∷ []))
    ∷ one_record 0x03 0x03 [] [] (cells_with_check (0 ∷ []))
    -- bits 6 and 7 not copied, in R0 and in the record after it
    ∷ one_record 0x00 0x80 [] [] (cells_with_check (0 ∷ []))
    ∷ one_record 0x03 0x80 [] [] (cells_with_check (0 ∷ []))
    -- a flag bit 1, 2, 3, 4 or 5 set
    ∷ one_record 0x03 0xC3 [] [] (cells_with_check (0 ∷ []))
    ∷ one_record 0x03 0xA3 [] [] (cells_with_check (0 ∷ []))
    ∷ one_record 0x03 0x93 [] [] (cells_with_check (0 ∷ []))
    ∷ one_record 0x03 0x8B [] [] (cells_with_check (0 ∷ []))
    ∷ one_record 0x03 0x87 [] [] (cells_with_check (0 ∷ []))
    -- one gap cell between two records; between two areas of a record
    ∷ one_record 0x03 0x83 (gap ∷ []) [] (cells_with_check (0 ∷ []))
    ∷ one_record 0x03 0x83 [] (gap ∷ []) (cells_with_check (0 ∷ []))
    -- a cell that is not 0 after the last
    ∷ set right_track 4095 1
    -- DL 0 with a byte that is not zero
    ∷ one_record 0x03 0x83 [] [] (cells_with_check (1 ∷ []))
    -- a bad check
    ∷ set right_track 46 257
    -- no R0: a record right after the home address; nothing but the home address
    ∷ track_of (home_with 0 ++ (marker ∷ count_with 0x80 1 0 0 1) ++ cells_with_check (0 ∷ []))
    ∷ track_of (home_with 0)
    -- a cell too few
    ∷ (home_with 0 ++ usual_r0 0 ++ replicate 4067 gap)
    ∷ []
