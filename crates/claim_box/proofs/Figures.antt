-- The starred figures and the limits hold: each side computes.
use mathlib.Core.Path.{refl}
use mathlib.Core.List.Memᴰ
use Rattle.sound.specs.Tracks.{home_and_r0}
use Rattle.sound.proofs.Test.{soundly_sound}
use Rattle.sound.proofs.Tracks.{sound_tracks}
use Rattle.claim_box.specs.Figures.{id_two, Figures}
use Rattle.claim_box.specs.Limits.{Limits}
use Rattle.claim_box.proofs.Opened.{box}

pub figures : Figures
unfolding box id_two
figures = record {
  one_sound = sound_tracks home_and_r0 (Memᴰ.head refl);
  one_start = refl;
  one_start_going = refl;
  one_start-next = refl;
  one_search = refl;
  one_search_next = refl;
  one_search_whole = refl;
  one_search_position = refl;
  one_end = refl;
  one_status = refl;
  two_ends = refl;
  two_room = refl;
  two_fits = refl;
  two_below = refl;
  two_not = refl;
  three = refl;
  four = refl;
  four_going = refl;
  four_held = refl;
  four_end = refl;
  four_status = refl;
  five_04 = refl;
  five_04_end = refl;
  five_04_status = refl;
  five_04_sense = refl;
  five_20 = refl;
  five_20_end = refl;
  five_20_status = refl;
  five_20_sense = refl;
  six = refl;
  six_going = λ cells n. rw n;
  six_position = λ cells n. rw n;
  six_head = refl;
  seven_cylinder = refl;
  seven_cylinder_end = λ cells n. rw n;
  seven_cylinder_status = λ cells n. rw n;
  seven_cylinder_position = λ cells n. rw n;
  seven_head = refl;
  seven_head_end = λ cells n. rw n;
  seven_head_status = λ cells n. rw n;
  seven_head_position = λ cells n. rw n;
  seven_head_only = refl;
  eight = refl;
  eight_sound = soundly_sound id_two refl;
  eight_high = refl;
  eight_equal = refl;
  eight_equal_or_high = refl;
  eight_low_high = refl;
  eight_low_equal = refl;
  eight_low_equal_or_high = refl;
  nine_satisfied = refl;
  nine_not_whole = refl;
  nine_end = refl;
  nine_status = refl;
  nine_sense = refl;
  nine_cells = refl;
  nine_whole = refl;
  nine_written = refl;
}

pub limits : Limits
unfolding box
limits = record {
  cylinders_0 = refl;
  cylinders_1 = refl;
  cylinders_203 = refl;
  cylinders_204 = refl;
  heads_0 = refl;
  heads_10 = refl;
  heads_11 = refl;
  cells_few = refl;
  cells_right = refl;
  cells_many = refl;
  far_end = refl;
  far_room = refl;
  far_not = refl;
}
