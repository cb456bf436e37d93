-- What the code's calls come to, in the model's words: what is laid call by call is what the model lays at once.
use Prim.Native.Nat.{ℕ, ◌+◌, ◌%◌, ◌<◌, ◌≤◌}
use mathlib.Core.Path.{◌≡◌, sym, ap, ap₂, ◌∙◌, subst}
use mathlib.Core.Bool.{Bool, true, false}
use mathlib.Core.List.{List, ◌∷◌}
use native.Mathlib.Omega.{arith}
use lib.ListN.{length, get_or}
use Rattle.cells.specs.Cells.{overlay, padded, marker}
use Rattle.house_check.specs.Check as House
use Rattle.areas.specs.declared.{Area.Area, Counts.Counts}
use Rattle.areas.specs.Areas.{key_area, data_area, record_cells, end_by, needed, flag_of_r0, flag_after}
use Rattle.areas.proofs.Laws.{home_flag_lem}
use Rattle.hunt.specs.Hunt.{WholeTrack}
use Rattle.room.specs.Room.{fits}
use Rattle.room.proofs.Laws.{fits_ends}
use Rattle.recording.specs.Recording.{area_written, wiped, Lies}
use Rattle.format.specs.Format.{new_counts, new_record, Ends}
use Rattle.format.proofs.Laws.{formatted, length-area, length-new}
use Rattle.command.specs.Command.{named, seen_with, on_head, areas_of, seen_of, writes_over, goes_over, all_recorded, Sight, areas_read, sight, r0_turn, record_turn, key_sent, to_end, write_turn}
use Rattle.command.proofs.Pieces.{format_is}
use Rattle.table.specs.declared.{Names.Names, Write.Write, Act.Act}
use Rattle.turn.specs.Turn.{alone, lay, is_check}
use Rattle.command.specs.declared.{Job.Job}
use Rattle.writes.specs.Writes.{DoesWrite, updated, Over}
use Rattle.writes.proofs.Laws.{home_lays, new-fits, new_lays, update_recorded, update_lays, recorded-over}

-- ---- the home address

pub home_formatted : (v t t₁ t₂ : List ℕ) → WholeTrack t → t₁ ≡ area_written t 0 v 5 → t₂ ≡ wiped t₁ 7 → t₂ ≡ overlay t 0 (to_end 0 (House.cells_with_check (padded 5 v)))
unfolding formatted area_written
home_formatted v t t₁ t₂ w p q =
    let long : 7 ≡ 0 + length (House.cells_with_check (padded 5 v)) = omega (arith, length-area 5 v) in
    q ∙ ap₂ wiped p long ∙ sym (format_is t 0 (House.cells_with_check (padded 5 v)) w.long (omega arith))

-- ---- a new record that has room

module _ (flag : ℕ) (v t : List ℕ) (w : WholeTrack t) (n : Counts) (p : n ≡ new_counts flag v) where
  -- R0
  module _ (r : fits 7 (record_cells (new_counts flag v)) ≡ true) where
    pub r0_ends : Ends t 7 flag v n
    r0_ends = record { counts = p; ends = omega (arith, fits_ends 7 (record_cells (new_counts flag v)) r, ap record_cells p, w.long) }

    pub r0_formatted : (t₁ t₂ : List ℕ) (m : ℕ) → t₁ ≡ overlay t 7 (new_record flag v) → m ≡ record_cells n → t₂ ≡ wiped t₁ (7 + m)
        → t₂ ≡ overlay t 7 (to_end 7 (new_record flag v))
    unfolding formatted
    r0_formatted t₁ t₂ m f q g =
        let long : m ≡ length (new_record flag v) = q ∙ ap record_cells p ∙ sym (length-new flag v) in
        g ∙ ap₂ (λ (x : List ℕ) (k : ℕ). wiped x (7 + k)) f long
        ∙ sym (format_is t 7 (new_record flag v) w.long (omega (arith, length-new flag v, fits_ends 7 (record_cells (new_counts flag v)) r)))

  -- a record from a cell on, its marker first
  module _ (at : ℕ) (r : fits at (needed (new_counts flag v)) ≡ true) where
    pub record_in : at + 12 ≤ 4096
    unfolding needed record_cells
    record_in = omega (arith, fits_ends at (needed (new_counts flag v)) r)

    pub record_ends : Ends t (at + 1) flag v n
    unfolding needed
    record_ends = record { counts = p; ends = omega (arith, fits_ends at (needed (new_counts flag v)) r, ap record_cells p, w.long) }

    pub record_formatted : (t₁ t₂ : List ℕ) (m : ℕ) → t₁ ≡ overlay t at (marker ∷ new_record flag v) → m ≡ needed n → t₂ ≡ wiped t₁ (at + m)
        → t₂ ≡ overlay t at (to_end at (marker ∷ new_record flag v))
    unfolding formatted needed
    record_formatted t₁ t₂ m f q g =
        let cells : length (new_record flag v) ≡ record_cells n = length-new flag v ∙ ap record_cells (sym p) in
        let long : at + m ≡ at + length (marker ∷ new_record flag v) = omega (arith, q, cells) in
        g ∙ ap₂ wiped f long
        ∙ sym (format_is t at (marker ∷ new_record flag v) w.long (omega (arith, length-new flag v, fits_ends at (needed (new_counts flag v)) r)))

-- ---- an area that an update goes over

module _ (t : List ℕ) (key : Bool) (c : ℕ) (n : Counts) (o : Over t key c n) (s : ℕ) (q : s ≡ key_sent key n) where
  pub key_lies : (a : Area) → a ≡ key_area c n → 0 < s → Lies t a.first s
  key_lies a e h = subst (λ (x : Area). Lies t x.first s) (sym e) (subst (λ (i : ℕ). Lies t (key_area c n).first i) (sym q) (o.keyed (subst (λ (i : ℕ). 0 < i) q h)))

  pub data_lies : (u : List ℕ) (d : Area) → length u ≡ length t → d ≡ data_area c n → 0 < n.dl → Lies u d.first n.dl
  data_lies u d l e h = record { ends = omega (arith, (o.body h).ends, l, ap (λ (a : Area). a.first) e) }

-- ---- by the write

module _ (t v : List ℕ) (j : Job) (w : Write) (s : DoesWrite j w) where
  abbrev x : Sight
  x = sight (alone t) j v

  -- R0's flag is by the home address that was read
  pub flag_r0 : w ≡ Write.R0 → (home flag : ℕ) → home ≡ get_or t 0 0 % 256 → flag ≡ flag_of_r0 home → flag ≡ flag_of_r0 (get_or x.seen.home 0 0)
  unfolding sight seen_of areas_read areas_of on_head seen_with
  flag_r0 e home flag p q =
      q ∙ ap flag_of_r0 (p ∙ sym (home_flag_lem t))
      ∙ ap (λ (n : Names). flag_of_r0 (get_or (seen_of (alone t) (areas_of n (alone t) j.task.head j.task.place)).home 0 0)) (sym (s.home e))

  -- an update goes over the areas that it names
  pub recorded_is : (key : Bool) → w ≡ Write.Update key → all_recorded t (named j.task.place key true j.counts) ≡ x.recorded
  unfolding sight goes_over writes_over
  recorded_is key e = ap (λ (a : Act). all_recorded t (goes_over a j.task.place j.counts)) (ap Act.Write (sym e) ∙ sym s.act)

  -- what is laid when the ending is no Unit Check
  module _ (wh : WholeTrack t) (good : is_check (write_turn w x).ending ≡ false) where
    good_by : (y : Write) → w ≡ y → is_check (write_turn y x).ending ≡ false
    good_by y e = ap (λ (z : Write). is_check (write_turn z x).ending) (sym e) ∙ good

    laid_by : (y : Write) (u : List ℕ) → w ≡ y → u ≡ lay (write_turn y x).lays t → u ≡ lay (write_turn w x).lays t
    laid_by y u e f = f ∙ ap (λ (z : Write). lay (write_turn z x).lays t) (sym e)

    pub lays_home : (u : List ℕ) → w ≡ Write.HomeAddress → u ≡ overlay t 0 (to_end 0 (House.cells_with_check (padded 5 v))) → u ≡ lay (write_turn w x).lays t
    unfolding sight write_turn
    lays_home u e f = laid_by Write.HomeAddress u e (f ∙ home_lays x t)

    module _ (home flag : ℕ) (e : w ≡ Write.R0) (p : home ≡ get_or t 0 0 % 256) (q : flag ≡ flag_of_r0 home) where
      r0_good : is_check (r0_turn x flag).ending ≡ false
      unfolding write_turn
      r0_good = ap (λ (i : ℕ). is_check (r0_turn x i).ending) (flag_r0 e home flag p q) ∙ good_by Write.R0 e

      pub r0_room : fits 7 (record_cells (new_counts flag v)) ≡ true
      unfolding sight r0_turn
      r0_room = new-fits x t _ _ _ _ _ r0_good

      pub lays_r0 : (u : List ℕ) → u ≡ overlay t 7 (to_end 7 (new_record flag v)) → u ≡ lay (write_turn w x).lays t
      unfolding sight write_turn r0_turn
      lays_r0 u f =
          laid_by Write.R0 u e
          (f ∙ new_lays x t _ _ _ _ _ r0_room ∙ ap (λ (i : ℕ). lay (r0_turn x i).lays t) (flag_r0 e home flag p q))

    module _ (at flag : ℕ) (e : w ≡ Write.CountKeyData) (p : at ≡ end_by j.task.place j.counts) (q : flag ≡ flag_after j.counts.flag) where
      record_good : is_check (record_turn x at flag).ending ≡ false
      unfolding sight write_turn
      record_good = ap₂ (λ (i k : ℕ). is_check (record_turn x i k).ending) p q ∙ good_by Write.CountKeyData e

      pub record_room : fits at (needed (new_counts flag v)) ≡ true
      unfolding sight record_turn
      record_room = new-fits x t _ _ _ _ _ record_good

      pub lays_record : (u : List ℕ) → u ≡ overlay t at (to_end at (marker ∷ new_record flag v)) → u ≡ lay (write_turn w x).lays t
      unfolding sight write_turn record_turn needed
      lays_record u f =
          laid_by Write.CountKeyData u e
          (f ∙ new_lays x t _ _ _ _ _ record_room
          ∙ ap₂ (λ (i k : ℕ). lay (record_turn x i k).lays t) p q)

    module _ (key : Bool) (e : w ≡ Write.Update key) where
      seen-recorded : x.recorded ≡ true
      unfolding sight write_turn
      seen-recorded = update_recorded x key _ _ (good_by (Write.Update key) e)

      pub update_over : Over t key j.task.place j.counts
      update_over = recorded-over t key _ _ (recorded_is key e ∙ seen-recorded)

      pub lays_update : (u : List ℕ) → u ≡ updated t key j.task.place j.counts v → u ≡ lay (write_turn w x).lays t
      unfolding sight write_turn
      lays_update u f = laid_by (Write.Update key) u e (f ∙ update_lays x key _ _ t seen-recorded)

-- what a write lays, write by write
pub ruleset lays = (lays_home, r0_room, lays_r0, record_room, lays_record, update_over, lays_update)
