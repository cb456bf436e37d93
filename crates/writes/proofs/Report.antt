-- What is reported of a write: the code's branches are the model's choices, and the cells that are laid do not show in it.
use Prim.Native.Nat.{ℕ, ◌+◌, ◌%◌, ◌≤◌}
use mathlib.Core.Path.{◌≡◌, refl, sym, ap, ap₂, ◌∙◌}
use mathlib.Core.Bool.{Bool, true, false}
use mathlib.Core.List.{List, [], ◌∷◌, ◌++◌}
use native.Mathlib.Omega.{arith}
use lib.ListN.{get_or}
use lib.Dec.{ltb}
use Rattle.cells.specs.Cells.{both, marker}
use Rattle.cells.proofs.Tests.{first_picked, second_picked}
use Rattle.rows.specs.declared.Row.TheVariants.{Unreadable, NoRoom}
use Rattle.areas.specs.declared.{Area.Area, Counts.Counts}
use Rattle.areas.specs.Areas.{key_area, data_area, record_cells, end_by, needed, flag_of_r0, flag_after}
use Rattle.hunt.specs.declared.Spot.TheVariants.{Marker}
use Rattle.room.specs.Room.{fits}
use Rattle.room.proofs.Laws.{fits_ends}
use Rattle.turn.specs.declared.{Ending.Ending, Transfer.Transfer, Report.Report}
use Rattle.turn.specs.declared.Ending.TheVariants.{Normal}
use Rattle.command.specs.Command.{area_if, named, task, all_recorded, Sight, sight, fail_turn, ending_of, piece, to_end, home_turn, record_takes, new_turn, r0_turn, record_turn, key_sent, update_turn, write_turn}
use Rattle.format.specs.Format.{new_counts, new_record, recorded}
use Rattle.table.specs.declared.{Write.Write}
use Rattle.turn.specs.Turn.{Takes, alone, transfer_of, report_of}
use Rattle.command.specs.declared.{Task.Task, Job.Job}
use Rattle.ending.specs.Ending.{report_at}
use Rattle.ending.proofs.Laws.{ended_at, ended}
use Rattle.writes.specs.Writes.{DoesWrite}
use Rattle.writes.proofs.Calls.{flag_r0, recorded_is}
use Rattle.std.specs.Prelude.{Some}

-- ---- a new record, by whether it has room

module _ (t : List ℕ) (j : Job) (v : List ℕ) where
  abbrev x : Sight
  x = sight (alone t) j v

  module _ (k : Task) (first need : ℕ) (n : Counts) (c : List ℕ) (b : Bool) (r : Report) (q : b ≡ fits first need) where
    pub new_fails : b ≡ false → r ≡ report_of (fail_turn x NoRoom) → r ≡ report_of (new_turn x k first n need c)
    unfolding new_turn
    new_fails e f = f ∙ ap report_of (sym (second_picked _ _ _ (sym q ∙ e)))

    pub new_ends : (m : ℕ) → b ≡ true → m ≡ record_takes v n → r ≡ report_at j k Normal (Transfer.Takes m) false → r ≡ report_of (new_turn x k first n need c)
    unfolding new_turn sight transfer_of
    new_ends m e f g =
        g ∙ ap (λ (i : ℕ). report_at j k Normal (Transfer.Takes i) false) f
        ∙ sym (ended_at x Normal (Takes (record_takes v n)) (piece x first (to_end first c) ∷ []) false k) ∙ ap report_of (sym (first_picked _ _ _ (sym q ∙ e)))

  module _ (flag : ℕ) (n : Counts) (p : n ≡ new_counts flag v) (need : ℕ) where
    pub r0_told : (r : Report) → need ≡ record_cells n → r ≡ report_of (new_turn x j.task 7 n need (new_record flag v)) → r ≡ report_of (r0_turn x flag)
    unfolding r0_turn sight
    r0_told r q f =
        let told : Counts → ℕ → Report = λ m i. report_of (new_turn x j.task 7 m i (new_record flag v)) in
        f ∙ ap (told n) q ∙ ap (λ (m : Counts). told m (record_cells m)) p

    -- where it has room its cell lies on the track
    pub record_begins : (at : ℕ) (b : Bool) → need ≡ needed n → b ≡ fits at need → b ≡ true → at + 12 ≤ 4096
    unfolding needed record_cells
    record_begins at b q r e = omega (arith, fits_ends at need (sym r ∙ e), q)

    pub record_told : (at : ℕ) (r : Report) → need ≡ needed n
        → r ≡ report_of (new_turn x (task j.task.head (at + 1) (Some (Marker at)) 0) at n need (marker ∷ new_record flag v)) → r ≡ report_of (record_turn x at flag)
    unfolding record_turn sight
    record_told at r q f =
        let told : Counts → ℕ → Report = λ m i. report_of (new_turn x (task j.task.head (at + 1) (Some (Marker at)) 0) at m i (marker ∷ new_record flag v)) in
        f ∙ ap (told n) q ∙ ap (λ (m : Counts). told m (needed m)) p

-- ---- an update: whether the areas that it goes over are byte cells

module _ (t : List ℕ) where
  recorded-two : (l m : List Area) → all_recorded t (l ++ m) ≡ both (all_recorded t l) (all_recorded t m)
  unfolding all_recorded
  recorded-two [] m = refl
  recorded-two (a ∷ l) m = ap (both (recorded t a)) (recorded-two l m) ∙ both_assoc (recorded t a) _ _
    where
      both_assoc : (x y z : Bool) → both x (both y z) ≡ both (both x y) z
      both_assoc true y z = refl
      both_assoc false y z = refl

sent_key : (key : Bool) (n : Counts) → ltb 0 (key_sent key n) ≡ both key (ltb 0 n.kl)
unfolding key_sent
sent_key true n = refl
sent_key false n = refl

module _ (t : List ℕ) (key : Bool) (c : ℕ) (n : Counts) (s : ℕ) (q : s ≡ key_sent key n) (k : Area) (p : k ≡ key_area c n) (x : Bool) (f : x ≡ all_recorded t (area_if (ltb 0 s) k)) where
  key_part : all_recorded t (named c key true n) ≡ both x (all_recorded t (area_if (ltb 0 n.dl) (data_area c n)))
  unfolding named
  key_part =
      recorded-two t _ _
      ∙ ap (λ (z : Bool). both z (all_recorded t (area_if (ltb 0 n.dl) (data_area c n))))
      (sym (f ∙ ap₂ (λ (i : ℕ) (a : Area). all_recorded t (area_if (ltb 0 i) a)) q p ∙ ap (λ (z : Bool). all_recorded t (area_if z (key_area c n))) (sent_key key n)))

  pub key_bad : x ≡ false → false ≡ all_recorded t (named c key true n)
  key_bad e = sym (key_part ∙ ap (λ (z : Bool). both z (all_recorded t (area_if (ltb 0 n.dl) (data_area c n)))) e)

  pub both_recorded : (d : Area) (y : Bool) → x ≡ true → d ≡ data_area c n → y ≡ all_recorded t (area_if (ltb 0 n.dl) d) → y ≡ all_recorded t (named c key true n)
  both_recorded d y e o g =
      g ∙ ap (λ (a : Area). all_recorded t (area_if (ltb 0 n.dl) a)) o
      ∙ sym (key_part ∙ ap (λ (z : Bool). both z (all_recorded t (area_if (ltb 0 n.dl) (data_area c n)))) e)

module _ (t v : List ℕ) (key : Bool) (j : Job) (s : DoesWrite j (Write.Update key)) (b : Bool) (q : b ≡ all_recorded t (named j.task.place key true j.counts)) (r : Report) where
  abbrev y : Sight
  y = sight (alone t) j v

  seen : b ≡ y.recorded
  seen = q ∙ recorded_is t v j (Write.Update key) s key refl

  pub over_fails : b ≡ false → r ≡ report_of (fail_turn y Unreadable) → r ≡ report_of (write_turn (Write.Update key) y)
  unfolding write_turn update_turn
  over_fails e f = f ∙ ap report_of (sym (second_picked _ _ _ (sym seen ∙ e)))

  pub over_ends : (i : ℕ) (z : Ending) → b ≡ true → i ≡ key_sent key j.counts → z ≡ ending_of j
      → r ≡ report_at j j.task z (Transfer.Takes (i + j.counts.dl)) false → r ≡ report_of (write_turn (Write.Update key) y)
  unfolding write_turn update_turn sight transfer_of
  over_ends i z e f g h =
      h ∙ ap₂ (λ (w : Ending) (k : ℕ). report_at j j.task w (Transfer.Takes (k + j.counts.dl)) false) g f
      ∙ sym (ended y (ending_of j) (Takes (key_sent key j.counts + j.counts.dl)) _ false) ∙ ap report_of (sym (first_picked _ _ _ (sym seen ∙ e)))

-- ---- by the write

module _ (t v : List ℕ) (j : Job) (w : Write) (s : DoesWrite j w) (r : Report) where
  told_by : (z : Write) → w ≡ z → r ≡ report_of (write_turn z (x t j v)) → r ≡ report_of (write_turn w (x t j v))
  told_by z e f = f ∙ ap (λ (u : Write). report_of (write_turn u (x t j v))) (sym e)

  pub tells_home : w ≡ Write.HomeAddress → r ≡ report_at j j.task Normal (Transfer.Takes 5) false → r ≡ report_of (write_turn w (x t j v))
  unfolding sight write_turn home_turn transfer_of
  tells_home e f = told_by Write.HomeAddress e (f ∙ sym (ended (x t j v) Normal (Takes 5) _ false))

  pub tells_r0 : (home flag : ℕ) → w ≡ Write.R0 → home ≡ get_or t 0 0 % 256 → flag ≡ flag_of_r0 home → r ≡ report_of (r0_turn (x t j v) flag)
      → r ≡ report_of (write_turn w (x t j v))
  unfolding write_turn
  tells_r0 home flag e p q f = told_by Write.R0 e (f ∙ ap (λ (i : ℕ). report_of (r0_turn (x t j v) i)) (flag_r0 t v j w s e home flag p q))

  pub tells_record : (at flag : ℕ) → w ≡ Write.CountKeyData → at ≡ end_by j.task.place j.counts → flag ≡ flag_after j.counts.flag
      → r ≡ report_of (record_turn (x t j v) at flag) → r ≡ report_of (write_turn w (x t j v))
  unfolding sight write_turn
  tells_record at flag e p q f = told_by Write.CountKeyData e (f ∙ ap₂ (λ (i k : ℕ). report_of (record_turn (x t j v) i k)) p q)

  pub tells_over : (key : Bool) → w ≡ Write.Update key → r ≡ report_of (write_turn (Write.Update key) (x t j v)) → r ≡ report_of (write_turn w (x t j v))
  tells_over key e f = told_by (Write.Update key) e f

-- what a write tells, write by write
pub ruleset tells = (tells_home, tells_r0, tells_record, tells_over)
