-- Some tracks are soundly written and near misses are not, by the test.
use Prim.Native.Nat.{ℕ}
use mathlib.Core.Path.{◌≡◌, refl, sym, ap, ◌∙◌}
use mathlib.Core.Bool.{Bool, true, false, not, true≢false}
use mathlib.Core.List.Memᴰ
use mathlib.Core.List.{List, [], ◌∷◌, Memᴰ}
use borrow.Author.Tests.{not-true}
use Rattle.cells.specs.Cells.{pick, part, bytes_of, cells_of, all_bytes}
use Rattle.house_check.specs.Check.{bit_step, feed, byte_bits, bits, check, agrees, good_cells, with_check, cells_with_check}
use Rattle.areas.specs.Areas.{area_cells, readable, area_bytes, counts_of, counts_at, key_cells, key_area, data_area, record_cells, end_by, flag_of_r0, flag_after}
use Rattle.sound.specs.Sound.{Sound}
use Rattle.sound.specs.Test.{all_gaps, one_zero, record_ok, records_ok, soundly, each}
use Rattle.sound.specs.Tracks.{track_of, home_with, count_with, usual_r0, home_and_r0, keyed, one_record, right_track, near_misses}
use Rattle.sound.proofs.Test.{soundly_sound, sound_soundly}
use Rattle.cells.proofs.Tests.{first_of, second_of}

good : each true (home_and_r0 ∷ keyed ∷ right_track ∷ []) ≡ true
unfolding each home_and_r0 keyed one_record right_track track_of home_with count_with usual_r0 all_gaps one_zero record_ok records_ok soundly flag_of_r0 flag_after area_cells readable area_bytes counts_of counts_at key_cells key_area data_area record_cells end_by agrees good_cells with_check cells_with_check bit_step feed byte_bits bits check bytes_of cells_of all_bytes part
good = refl

bad : each false near_misses ≡ true
unfolding each near_misses one_record right_track track_of home_with count_with usual_r0 all_gaps one_zero record_ok records_ok soundly flag_of_r0 flag_after area_cells readable area_bytes counts_of counts_at key_cells key_area data_area record_cells end_by agrees good_cells with_check cells_with_check bit_step feed byte_bits bits check bytes_of cells_of all_bytes part
bad = refl

-- of tracks that test alike, each one
each_test : (b : Bool) (l : List (List ℕ)) → each b l ≡ true → (t : List ℕ) → Memᴰ t l → pick b (soundly t) (not (soundly t)) ≡ true
unfolding each
each_test b [] e t m = absurd (Memᴰ.not-nil m)
each_test b (x ∷ l) e t (Memᴰ.head q) =
    ap (λ (y : List ℕ). pick b (soundly y) (not (soundly y))) q ∙ first_of (pick b (soundly x) (not (soundly x))) (each b l) e
each_test b (x ∷ l) e t (Memᴰ.tail m) = each_test b l (second_of (pick b (soundly x) (not (soundly x))) (each b l) e) t m

-- home address and R0 alone; keys and a record of DL 0; the track that the near misses are close to
pub sound_tracks : (t : List ℕ) → Memᴰ t (home_and_r0 ∷ keyed ∷ right_track ∷ []) → Sound t
sound_tracks t m = soundly_sound t (each_test true (home_and_r0 ∷ keyed ∷ right_track ∷ []) good t m)

-- none of the near misses is soundly written
pub near_misses_lem : (t : List ℕ) → Memᴰ t near_misses → Sound t → ⊥
near_misses_lem t m S = true≢false (sym (sound_soundly t S) ∙ not-true (soundly t) (each_test false near_misses bad t m))
