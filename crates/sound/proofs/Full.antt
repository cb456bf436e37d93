-- A track filled to room 0 is soundly written, whatever fills it: its data area is good by the law of what is laid, and no cell is left
-- behind it.
use Prim.Native.Nat.{ℕ, zero, suc, ◌+◌, ◌-◌, ◌<◌, ◌≤◌}
use mathlib.Core.Path.{◌≡◌, refl, sym, ap, ◌∙◌}
use mathlib.Core.Bool.{true}
use mathlib.Core.List.{List, ◌++◌}
use native.Mathlib.Omega.{arith}
use lib.Dec.{lit<}
use lib.ListN.{length, get_or, replicate, length-replicate, get_or-eq_default}
use lib.Seq.{take_all}
use Rattle.cells.specs.Cells.{part, bytes_of, cells_of, all_bytes}
use Rattle.cells.proofs.Numbers.{Bytes}
use Rattle.house_check.specs.Check.{bit_step, feed, byte_bits, bits, check, agrees, good_cells, with_check, cells_with_check}
use Rattle.house_check.proofs.Cells.{length_laid, laid_good}
use Rattle.areas.specs.Areas.{area_cells, readable, area_bytes, count_area, counts_of, counts_at, key_cells, key_area, data_area, record_cells, end_by, flag_of_r0, flag_after}
use Rattle.sound.specs.Sound.{Record, Records, none, more, Sound}
use Rattle.sound.specs.Tracks.{home_with, count_with, usual_r0, full_head, full}

-- a good data area of 4,054 bytes
module _ (d : List ℕ) (long : length d ≡ 4056) (ok : good_cells 4054 d ≡ true) where
  whole : length (full_head ++ d) ≡ 4096
  unfolding full_head home_with count_with usual_r0 cells_with_check with_check cells_of
  whole = omega arith

  r0_is : Record (full_head ++ d) 7
  unfolding full_head home_with count_with usual_r0 area_cells readable area_bytes counts_of counts_at key_cells key_area data_area agrees good_cells with_check cells_with_check bit_step feed byte_bits bits check bytes_of cells_of all_bytes part
  r0_is = record { count = refl; key = λ k. absurd (k refl); body = refl; empty = λ e. let z : ◌≡◌ {A = ℕ} 8 0 = e in absurd (omega arith) }

  one_counted : readable (full_head ++ d) (count_area 29) ≡ true
  unfolding full_head home_with count_with usual_r0 area_cells readable agrees good_cells with_check cells_with_check bit_step feed byte_bits bits check bytes_of cells_of all_bytes part
  one_counted = refl

  one_good : readable (full_head ++ d) (data_area 29 (counts_at (full_head ++ d) 29)) ≡ true
  unfolding full_head home_with count_with usual_r0 area_cells readable area_bytes counts_of counts_at key_cells data_area with_check cells_with_check bit_step feed byte_bits bits check bytes_of cells_of part
  one_good = ap (good_cells 4054) (take_all 4056 d (omega arith)) ∙ ok

  one_is : Record (full_head ++ d) 29
  unfolding full_head home_with count_with usual_r0 area_cells area_bytes counts_of counts_at with_check cells_with_check bit_step feed byte_bits bits check bytes_of cells_of part
  one_is = record {
    count = one_counted;
    key = λ k. absurd (k refl);
    body = one_good;
    empty = λ e. let z : ◌≡◌ {A = ℕ} 4054 0 = e in absurd (omega arith);
  }

  nothing_behind : (i : ℕ) → 4096 ≤ i → get_or (full_head ++ d) i 0 ≡ 0
  nothing_behind i h = get_or-eq_default (full_head ++ d) 0 {n = i} (omega (arith, whole))

  rest_are : Records (full_head ++ d) 0 28
  unfolding full_head home_with count_with usual_r0 area_cells area_bytes counts_of counts_at key_cells record_cells end_by with_check cells_with_check bit_step feed byte_bits bits check bytes_of cells_of part flag_after
  rest_are = more refl one_is refl (none nothing_behind)

  filled_sound : Sound (full_head ++ d)
  unfolding full_head home_with count_with usual_r0 area_cells readable area_bytes counts_of counts_at key_cells record_cells end_by agrees good_cells with_check cells_with_check bit_step feed byte_bits bits check bytes_of cells_of all_bytes part flag_of_r0
  filled_sound = record { long = whole; home = refl; r0 = r0_is; flag = refl; rest = rest_are }

same_bytes : (n b : ℕ) → b < 256 → Bytes (replicate n b)
same_bytes zero b h i = omega arith
same_bytes (suc n) b h zero = h
same_bytes (suc n) b h (suc i) = same_bytes n b h i

pub full_sound : Sound full
unfolding full
full_sound =
    let n : length (replicate {A = ℕ} 4054 0xE5) ≡ 4054 = length-replicate {A = ℕ} 4054 0xE5 in
    filled_sound (cells_with_check (replicate 4054 0xE5)) (length_laid (replicate 4054 0xE5) ∙ ap (λ (k : ℕ). k + 2) n)
    (ap (λ (k : ℕ). good_cells k (cells_with_check (replicate 4054 0xE5))) (sym n) ∙ laid_good (replicate 4054 0xE5) (same_bytes 4054 0xE5 (lit< tt)))
