-- What the words read, and what they do with damage: each side computes. That the damage is damage: one recorded byte of an area stands in
-- the place of another, so all other cells are as they were, and the bits that differ are that byte's.
use Prim.Native.Nat.{ℕ, ◌<◌}
use native.Mathlib.Omega.{arith}
use native.Mathlib.Decide.{ℕ_discrete}
use mathlib.Core.Path.{◌≡◌, refl, sym, ap, ◌∙◌, subst}
use mathlib.Core.Bool.{true}
use mathlib.Core.List.Memᴰ
use mathlib.Core.List.{List}
use lib.ListN.{length, get_or, set, length-set}
use lib.Seq.{get_or-set_same, get_or-set_other}
use lib.Dec.{lit<}
use Rattle.cells.specs.Cells.{is_byte, cell_of, bytes_of}
use Rattle.house_check.specs.Check.{Burst, window}
use Rattle.house_check.proofs.Burst.{burst_parts}
use Rattle.areas.specs.declared.{Area.Area}
use Rattle.areas.specs.Areas.{area_cells, readable}
use Rattle.hunt.specs.declared.Spot.TheVariants.{Marker}
use Rattle.sound.specs.Sound.{Sound}
use Rattle.sound.specs.Tracks.{home_and_r0}
use Rattle.sound.proofs.Test.{soundly_sound}
use Rattle.sound.proofs.Tracks.{sound_tracks}
use Rattle.claim_track.specs.Damage.{own_count, own_data, In, Damaged, any, part_no, same_area}
use Rattle.claim_track.proofs.Areas.{cell_recorded}
use Rattle.claim_box.specs.Reading.{stocked, one_count, one_data, hurt_count, hurt_data, Reading, touches, NotEmpty}
use Rattle.claim_box.proofs.Opened.{track, box}

stocked_sound : Sound stocked
unfolding track stocked
stocked_sound = soundly_sound stocked refl

pub reading : Reading
unfolding box stocked hurt_count
reading = record {
  sound = stocked_sound;
  sound_alone = sound_tracks home_and_r0 (Memᴰ.head refl);
  search_home = refl;
  read_home = refl;
  search_id = refl;
  tic = refl;
  search_id-next = refl;
  read_data = refl;
  read_key_data = refl;
  search_key = refl;
  space_record = refl;
  read_data_r0 = refl;
  read_count = refl;
  read_r0 = refl;
  read_r0_keyless = refl;
  read_count_key_data = refl;
  read_count_key_data_empty = refl;
  no_marker = refl;
  no_marker-sense = refl;
  first_index = refl;
  second_index = refl;
  second_index_sense = refl;
  bad_count = refl;
}

-- ---- damage

-- another byte in one cell of a readable area
one_cell : (s : ℕ) (x : Area) (t : List ℕ) (i c : ℕ) → In x i → i < length t → is_byte c ≡ true → readable t x ≡ true
    → Burst window s (bytes_of (area_cells t x)) (bytes_of (area_cells (set t i c) x)) → Damaged s x t (set t i c)
one_cell s x t i c h l b e B = record {
  long = length-set t i c;
  others = λ j n. get_or-set_other t i j c 0 (λ q. n (subst (In x) (sym q) h));
  recorded = λ j m. go j m (ℕ_discrete j i);
  bits = B;
}
  where
    go : (j : ℕ) → In x j → Dec (j ≡ i) → is_byte (get_or (set t i c) j 0) ≡ true
    go j m (yes q) = ap (λ (k : ℕ). is_byte (get_or (set t i c) k 0)) q ∙ ap is_byte (get_or-set_same t i c 0 l) ∙ b
    go j m (no q) = ap is_byte (get_or-set_other t i j c 0 q) ∙ cell_recorded t x j e m

-- cell 39 is the KL of record 1, byte 6 of its count area; cell 48 is byte 0 of its data area
count_hurt : Damaged 48 one_count stocked hurt_count
unfolding track stocked hurt_count
count_hurt =
    one_cell 48 one_count stocked 39 (cell_of 3) (lit< tt, lit< tt) (lit< tt) refl refl
    (burst_parts 16 48 (bytes_of (area_cells stocked one_count)) (bytes_of (area_cells hurt_count one_count))
    (λ e. let z : ◌≡◌ {A = ℕ} 2 3 = ap (λ (l : List ℕ). get_or l 6 0) e in omega arith) refl refl)

data_hurt : Damaged 0 one_data stocked hurt_data
unfolding track stocked hurt_data
data_hurt =
    one_cell 0 one_data stocked 48 (cell_of 0) (lit< tt, lit< tt) (lit< tt) refl refl
    (burst_parts 16 0 (bytes_of (area_cells stocked one_data)) (bytes_of (area_cells hurt_data one_data))
    (λ e. let z : ◌≡◌ {A = ℕ} 1 0 = ap (λ (l : List ℕ). get_or l 0 0) e in omega arith) refl refl)

pub not_empty : NotEmpty
unfolding box stocked hurt_count hurt_data touches any same_area part_no
not_empty = record {
  sound = stocked_sound;
  count_own = own_count (Marker 32) refl;
  count_damaged = count_hurt;
  data_own = own_data (Marker 32) refl;
  data_damaged = data_hurt;
  past_unread = refl;
  past_end = refl;
  past_status = refl;
  past_bytes = refl;
  past_cells = refl;
  past_undamaged_unread = refl;
  past_undamaged_end = refl;
  past_same_held = refl;
  past_same_storage = refl;
  count_read = refl;
  count_end = refl;
  count_storage = refl;
  count_position = refl;
  count_cells = refl;
  count_undamaged_end = refl;
  count_undamaged_status = refl;
  count_undamaged_bytes = refl;
  data_read = refl;
  data_end = refl;
  data_storage = refl;
  data_position = refl;
  data_cells = refl;
  data_undamaged_end = refl;
  data_undamaged_status = refl;
  data_undamaged_bytes = refl;
}
