-- Soundly written (REFERENCE 2.7), as a test that computes; the laws say that it is the predicate.
use Rattle.std.specs.Prelude.{ℕ, zero, suc, ◌+◌, Bool, true, false, not, List, [], ◌∷◌, length, get_or, drop, eqb}
use Rattle.cells.specs.Cells.{pick, both, either, track_cells, marker, gap}
use Rattle.areas.specs.Areas.{home_area, home_flag, r0_first, count_area, key_area, data_area, readable, area_bytes, counts_at, flag_of_r0, flag_after}
use Rattle.sound.specs.Sound.{flag_at, end_at}

unfoldable pub all_gaps : List ℕ → Bool
all_gaps [] = true
all_gaps (x ∷ t) = both (eqb x gap) (all_gaps t)

unfoldable pub one_zero : List ℕ → Bool
one_zero [] = false
one_zero (b ∷ []) = eqb b 0
one_zero (b ∷ b' ∷ v) = false

unfoldable pub record_ok : List ℕ → ℕ → Bool
record_ok t c =
    both (readable t (count_area c))
    (both (either (eqb (counts_at t c).kl 0) (readable t (key_area c (counts_at t c))))
    (both (readable t (data_area c (counts_at t c)))
    (pick (eqb (counts_at t c).dl 0) (one_zero (area_bytes t (data_area c (counts_at t c)))) true)))

-- at most n records from cell p on, after one whose flag is f
unfoldable pub records_ok : ℕ → List ℕ → ℕ → ℕ → Bool
records_ok zero t f p = all_gaps (drop p t)
records_ok (suc n) t f p =
    pick (eqb (get_or t p gap) marker)
    (both (record_ok t (p + 1)) (both (eqb (flag_at t (p + 1)) (flag_after f)) (records_ok n t (flag_at t (p + 1)) (end_at t (p + 1)))))
    (all_gaps (drop p t))

unfoldable pub soundly : List ℕ → Bool
soundly t =
    both (eqb (length t) track_cells)
    (both (readable t home_area)
    (both (record_ok t r0_first)
    (both (eqb (flag_at t r0_first) (flag_of_r0 (home_flag t)))
    (records_ok track_cells t (flag_at t r0_first) (end_at t r0_first)))))

-- whether the test of each of some tracks comes to b
unfoldable pub each : Bool → List (List ℕ) → Bool
each b [] = true
each b (t ∷ l) = both (pick b (soundly t) (not (soundly t))) (each b l)
