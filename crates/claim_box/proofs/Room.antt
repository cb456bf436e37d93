-- A write that has no room changes no cell: if it acts, it ends in 00 40, else in an earlier row. Where no earlier row holds it acts, since its row takes
-- it to the record that it takes without a hunt.
use Prim.Native.Nat.{ℕ, ◌+◌}
use mathlib.Core.Path.{◌≡◌, refl, sym, ap, ◌∙◌}
use mathlib.Core.Bool.{true, false, false≢true}
use mathlib.Core.List.{List, []}
use lib.Dec.{ltb}
use Rattle.cells.specs.Cells.{pick, both}
use Rattle.cells.proofs.Tests.{first_of, first_picked, second_picked}
use Rattle.rows.specs.declared.{Row.Row}
use Rattle.rows.specs.Rows.{sense_of, row_takes}
use Rattle.areas.specs.declared.{Counts.Counts}
use Rattle.areas.specs.Areas.{home_flag, r0_first, counts_of, counts_at, key_cells, record_cells, end_by, needed, flag_of_r0, flag_after}
use Rattle.hunt.specs.declared.{Spot.Spot}
use Rattle.hunt.specs.Hunt.{count_first}
use Rattle.room.specs.Room.{fits}
use Rattle.pack.specs.declared.{Shape.Shape}
use Rattle.held.specs.declared.{Position.Position, Orders.Orders}
use Rattle.command.specs.declared.{Task.Task}
use Rattle.command.specs.Command.{most_tally, marks_of, licensed, task, tallies, on_record, on_selected, aimed, plan_of, areas_of, gets, Sight, areas_read, sight, fail_turn, new_turn, r0_turn, record_turn, write_turn, act_turn, job_of, has_read, ready_by, plan_reads, ready_turn, rule_turn, command}
use Rattle.turn.specs.Turn.{with_sense, position_at, Tracks, transfer_of, wants, Turn, report_of, check_turn}
use Rattle.format.specs.Format.{new_counts}
use Rattle.table.specs.declared.{Write.Write, Act.Act, Rule.Rule}
use Rattle.table.specs.Table.{rule_of}
use Rattle.command.proofs.Planned.{is_selected}
use Rattle.channel.specs.Channel.{bytes_moved}
use Rattle.claim_box.specs.Confined as Confined
use Rattle.claim_box.specs.Confined.{bars, has_room, NoRowBefore, RoomKept}
use Rattle.claim_box.proofs.Acting as Acting
use Rattle.claim_box.proofs.Acting.{on_selection, apt_write, apt_write_lem, bars_not, Acting, acting_takes, aimed_r0, aimed-selected, obeys_all}
use Rattle.claim_box.proofs.Commands.{nothing_laid}
use Rattle.std.specs.Prelude.{None, Some, Ok, Err, Option, Result}

-- a new record is as long with one flag as with another
same_size : (a b : ℕ) (v : List ℕ) → record_cells (new_counts a v) ≡ record_cells (new_counts b v)
unfolding new_counts counts_of record_cells key_cells
same_size a b v = refl

spot_same : (x y : Spot) → Some x ≡ Some y → x ≡ y
spot_same x y e = cc

module _ (g : Shape) (t : Tracks) (s : Position) (o : Orders) (code : ℕ) (v : List ℕ) (r : Rule) (w : Write) (spot : Spot)
    (act : r.act ≡ Act.Write w) (apt : apt_write w r ≡ true) (on : Confined.record_taken w o.selection ≡ Some spot)
    (tight : has_room w (count_first spot) v (t s.head) ≡ false) where
  module _ (k : Task) (n : Counts) (A : Acting t s o r k n) where
    abbrev x : Sight
    x = sight t (job_of code r s o k n) v

    zero_tight : (flag : ℕ) → fits r0_first (record_cells (new_counts (flag_of_r0 (home_flag (t s.head))) v)) ≡ false
        → r0_turn x flag ≡ fail_turn x Row.NoRoom
    unfolding r0_turn new_turn sight
    zero_tight flag e =
        second_picked (fits r0_first (record_cells (new_counts flag v))) _ _
        (ap (fits r0_first) (same_size flag (flag_of_r0 (home_flag (t s.head))) v) ∙ e)

    record_tight : o.selection ≡ Some spot → Acting.Takes t s o r k n o.selection
        → fits (end_by (count_first spot) (counts_at (t s.head) (count_first spot)))
        (needed (new_counts (flag_after (counts_at (t s.head) (count_first spot)).flag) v)) ≡ false
        → record_turn x (end_by k.place n) (flag_after n.flag) ≡ fail_turn x Row.NoRoom
    unfolding record_turn new_turn sight
    record_tight p (Acting.takes spot' p' q c) e =
        let z : spot' ≡ spot = spot_same spot' spot (sym p' ∙ p) in
        second_picked (fits (end_by k.place n) (needed (new_counts (flag_after n.flag) v))) _ _
        ((λ i. fits (end_by (q i) (c i)) (needed (new_counts (flag_after (c i).flag) v)))
        ∙ (λ i. fits (end_by (count_first (z i)) (counts_at (t s.head) (count_first (z i))))
        (needed (new_counts (flag_after (counts_at (t s.head) (count_first (z i))).flag) v))) ∙ e)

    lays_tight : (u : Write) → apt_write u r ≡ true → Confined.record_taken u o.selection ≡ Some spot → has_room u (count_first spot) v (t s.head) ≡ false
        → write_turn u x ≡ fail_turn x Row.NoRoom
    unfolding write_turn has_room apt_write Confined.record_taken sight
    lays_tight Write.HomeAddress a p e = absurd (false≢true (sym e))
    lays_tight Write.R0 a p e = zero_tight _ e
    lays_tight Write.CountKeyData a p e = record_tight p (acting_takes t s o r k n A a) e
    lays_tight (Write.Update key) a p e = absurd (false≢true (sym e))

    acts_tight : act_turn g r.act x ≡ fail_turn x Row.NoRoom
    unfolding act_turn
    acts_tight = ap (λ (a : Act). act_turn g a x) act ∙ lays_tight w apt on tight

  no_cell : (rule_turn g t code r s o v).lays ≡ []
  unfolding check_turn fail_turn
  no_cell = obeys_all t s o r g code v (λ (y : Turn). y.lays ≡ []) (λ l row. refl) (λ k n A. ap (λ (y : Turn). y.lays) (acts_tight k n A))

  -- ---- where no earlier row holds

  aims_record : (u : Write) → apt_write u r ≡ true → Confined.record_taken u o.selection ≡ Some spot → has_room u (count_first spot) v (t s.head) ≡ false
      → aimed r (marks_of t) s o r.aim ≡ on_record r o s.head spot 0
  unfolding has_room apt_write on_selection Confined.record_taken on_selected
  aims_record Write.HomeAddress a p e = absurd (false≢true (sym e))
  aims_record Write.R0 a p e =
      aimed_r0 t s o r r.aim a ∙ ap (λ (y : Spot). on_record r o s.head y 0) (spot_same Spot.R0 spot p)
  aims_record Write.CountKeyData a p e =
      aimed-selected t s o r r.aim (first_of (is_selected r.aim) _ a)
      ∙ ap (λ (y : Option Spot). on_selected r o s.head y (Err Row.WrongBefore)) p
  aims_record (Write.Update key) a p e = absurd (false≢true (sym e))

  abbrev there : Task
  there = task s.head (count_first spot) (pick r.selects (Some spot) None) (pick (tallies r.act) (o.tally + 0) 0)

  aims_there : aimed r (marks_of t) s o r.aim ≡ Ok there
  unfolding on_record tallies
  aims_there =
      aims_record w apt on tight
      ∙ second_picked (both (tallies r.act) (ltb most_tally (o.tally + 0))) _ _
      (ap (λ (a : Act). both (tallies a) (ltb most_tally (o.tally + 0))) act)

  module _ (l : licensed r.licence o ≡ true) (m : bars r.bar o.mask ≡ false) (n : Counts)
      (reads : gets r.names t s.head (count_first spot) ≡ Ok n) where
    plans_there : plan_of r (marks_of t) s o ≡ Ok there
    unfolding plan_of
    plans_there = first_picked (licensed r.licence o) _ _ l ∙ bars_not r.bar o.mask _ m ∙ aims_there

    row_shown : rule_turn g t code r s o v ≡ check_turn s o (areas_of r.names t s.head (count_first spot)) Row.NoRoom
    unfolding rule_turn plan_reads ready_by has_read ready_turn fail_turn sight areas_read
    row_shown =
        ap (λ (p : Result Task Row). ready_turn g t s o v (plan_reads t r p) (ready_by t code r s o p)) plans_there
        ∙ ap (λ (y : Result Counts Row). ready_turn g t s o v (areas_of r.names t s.head (count_first spot)) (has_read code r s o there y)) reads
        ∙ acts_tight there n (record { licence = l; mask = m; aims = aims_there; here = refl; sees = reads })

module _ (g : Shape) (t : Tracks) (s : Position) (o : Orders) (code : ℕ) (v : List ℕ) (w : Write) (spot : Spot) (act : (rule_of code).act ≡ Act.Write w)
    (on : Confined.record_taken w o.selection ≡ Some spot) (tight : has_room w (count_first spot) v (t s.head) ≡ false) where
  row_is : NoRowBefore t s o code spot
      → command g t s o code v ≡ check_turn s o (areas_of (rule_of code).names t s.head (count_first spot)) Row.NoRoom
  unfolding command
  row_is b = row_shown g t s o code v (rule_of code) w spot act (apt_write_lem code w act) on tight b.licence b.mask b.counts b.reads

  none_laid : (command g t s o code v).lays ≡ []
  unfolding command
  none_laid = no_cell g t s o code v (rule_of code) w spot act (apt_write_lem code w act) on tight

  pub room_kept : RoomKept g t s o code v spot
  unfolding bytes_moved report_of transfer_of wants row_takes check_turn sense_of with_sense position_at
  room_kept = record {
    cells = nothing_laid g t s o code v none_laid;
    row = row_is;
    moved = λ b d. ap (λ (y : Turn). bytes_moved d (report_of y)) (row_is b);
    shown = λ b. ap (λ (y : Turn). y.position.sense) (row_is b);
  }
