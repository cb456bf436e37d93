-- What one command changes: of the track only cells that its write may reach; of storage what a read or Sense puts at its word's address, as many bytes
-- as it moved. What acts was licensed and not barred, and a Unit Check lays nothing.
use Prim.Native.Nat.{ℕ, ◌+◌, ◌≤◌, min}
use mathlib.Core.Path.{◌≡◌, refl, sym, ap, ◌∙◌, subst}
use mathlib.Core.Bool.{Bool, true, false, not, false≢true}
use mathlib.Core.List.{List, []}
use native.Mathlib.Omega.{arith}
use lib.ListN.{length, get_or, take, length-take}
use lib.Seq.{take-nil}
use Rattle.table.specs.Table.{is_write, rule_of}
use Rattle.cells.specs.Cells.{both, overlay}
use Rattle.cells.proofs.Laws.{overlay_none}
use Rattle.words.specs.declared.{Word.Word}
use Rattle.areas.specs.declared.{Counts.Counts}
use Rattle.hunt.specs.Hunt.{WholeTrack}
use Rattle.pack.specs.declared.{Shape.Shape}
use Rattle.held.specs.declared.{Position.Position, Orders.Orders}
use Rattle.table.specs.declared.{Write.Write, Act.Act, Rule.Rule}
use Rattle.turn.specs.Turn.{Tracks, Piece, Moves, None, Gives, Takes, given, transfer_of, wants, Turn, report_of, lay, is_check, check_turn}
use Rattle.command.specs.declared.{Task.Task}
use Rattle.command.specs.Command.{Sight, sight, all_recorded, goes_over, writes_over, write_turn, act_turn, job_of, command}
use Rattle.command.specs.Frame.{gives_bytes}
use Rattle.command.proofs.Acts.{acts_keeps}
use Rattle.command.proofs.Turns.{check_lays, only_reads_give}
use Rattle.command.proofs.Here.{lays_here}
use Rattle.channel.specs.Channel.{placed, bytes_moved}
use Rattle.claim_box.specs.Confined as Confined
use Rattle.claim_box.specs.Confined.{among, reaches, reaches_from, act_reaches, may_change, may_store, track_after, CommandConfined}
use Rattle.claim_box.proofs.Outside.{overlay-kept}
use Rattle.claim_box.proofs.Within.{Within, within_by, within_long, within_kept, within_on, write_within}
use Rattle.claim_box.proofs.Acting as Acting
use Rattle.claim_box.proofs.Acting.{on_selection, apt_write, apt_write_lem, Acting, acting_takes, obeys_all}
use Rattle.std.specs.Prelude.{Option}
use Rattle.hunt.specs.declared.{Spot.Spot}

-- ---- cells

module _ (g : Shape) (t : Tracks) (s : Position) (o : Orders) (code : ℕ) (v : List ℕ) (wh : WholeTrack (t s.head)) where
  module _ (r : Rule) (apt : (k : Write) → r.act ≡ Act.Write k → apt_write k r ≡ true) (k : Task) (n : Counts) (A : Acting t s o r k n) where
    abbrev x : Sight
    x = sight t (job_of code r s o k n) v

    -- a write works on the record that it takes
    selected-reaches : (w : Write) → on_selection r ≡ true → (i : ℕ) → reaches w k.place n i ≡ reaches_from w (t s.head) o.selection i
    unfolding reaches_from
    selected-reaches w e i = go (acting_takes t s o r k n A e)
      where
        go : Acting.Takes t s o r k n o.selection → reaches w k.place n i ≡ reaches_from w (t s.head) o.selection i
        go (Acting.takes spot p q c) = (λ j. reaches w (q j) (c j) i) ∙ ap (λ (y : Option Spot). reaches_from w (t s.head) y i) (sym p)

    write_reaches : (w : Write) → apt_write w r ≡ true → (i : ℕ)
        → reaches w k.place n i ≡ reaches_from w (t s.head) (Confined.record_taken w o.selection) i
    unfolding apt_write Confined.record_taken reaches_from reaches
    write_reaches Write.HomeAddress e i = refl
    write_reaches Write.R0 e i = refl
    write_reaches Write.CountKeyData e i = selected-reaches Write.CountKeyData e i
    write_reaches (Write.Update key) e i = selected-reaches (Write.Update key) e i

    -- an update sees whether its areas are byte cells
    goes_over_lem : (w : Write) → r.act ≡ Act.Write w → x.recorded ≡ all_recorded (t s.head) (writes_over w k.place n)
    unfolding sight goes_over
    goes_over_lem w e = λ j. all_recorded (t (A.here j)) (goes_over (e j) k.place n)

    acts_within : (a : Act) → r.act ≡ a → Within (act_reaches a (t s.head) o.selection) (act_turn g a x).lays
    unfolding act_reaches is_write act_turn sight
    acts_within (Act.Control a) e = subst (Within _) (sym ((acts_keeps x g (Act.Control a)).still refl)) tt
    acts_within (Act.Search h) e = subst (Within _) (sym ((acts_keeps x g (Act.Search h)).still refl)) tt
    acts_within (Act.Read c) e = subst (Within _) (sym ((acts_keeps x g (Act.Read c)).still refl)) tt
    acts_within (Act.Write w) e =
        within_by _ _ (write_reaches w (apt w e)) (write_turn w x).lays (write_within x (t s.head) wh.long w (goes_over_lem w e))

    -- it was licensed, and not barred
    may_is : (i : ℕ) → act_reaches r.act (t s.head) o.selection i ≡ may_change r o (t s.head) i
    unfolding may_change
    may_is i = λ j. both (sym A.licence j) (both (not (sym A.mask j)) (act_reaches r.act (t s.head) o.selection i))

    acting_within : Within (may_change r o (t s.head)) (act_turn g r.act x).lays
    acting_within = within_by _ _ may_is (act_turn g r.act x).lays (acts_within r.act refl)

  pub command_within : Within (may_change (rule_of code) o (t s.head)) (command g t s o code v).lays
  unfolding command check_turn
  command_within =
      obeys_all t s o (rule_of code) g code v (λ (y : Turn). Within (may_change (rule_of code) o (t s.head)) y.lays) (λ l row. tt)
      (acting_within (rule_of code) (apt_write_lem code))

module _ (g : Shape) (t : Tracks) (s : Position) (o : Orders) (code : ℕ) (v : List ℕ) where
  pub nothing_laid : (command g t s o code v).lays ≡ [] → track_after g t s o code v ≡ t s.head
  unfolding track_after lay
  nothing_laid e = ap (λ (l : List Piece). lay l (t s.head)) e

  -- what does not act lays nothing
  never_acts : ((k : Task) (n : Counts) → Acting t s o (rule_of code) k n → ⊥) → track_after g t s o code v ≡ t s.head
  unfolding command check_turn
  never_acts f = nothing_laid (obeys_all t s o (rule_of code) g code v (λ (y : Turn). y.lays ≡ []) (λ l row. refl) (λ k n A. absurd (f k n A)))

  -- ---- storage

  module _ (w : Word) (st : List ℕ) (room : w.address + w.count ≤ length st) (i : ℕ) where
    nothing_put : (y : List ℕ) → y ≡ [] → get_or (placed st w y) i 0 ≡ get_or st i 0
    unfolding placed
    nothing_put y e =
        ap (λ (z : List ℕ). get_or (overlay st w.address z) i 0) (ap (take w.count) e ∙ take-nil w.count)
        ∙ ap (λ (z : List ℕ). get_or z i 0) (overlay_none st w.address)

    -- as many bytes as were moved
    put_kept : (m : Moves) → among w.address (min w.count (wants (transfer_of m))) i ≡ false → get_or (placed st w (given m)) i 0 ≡ get_or st i 0
    unfolding placed given wants transfer_of
    put_kept None e = nothing_put [] refl
    put_kept (Gives y) e =
        overlay-kept st w.address (take w.count y) i (omega arith) (ap (λ (k : ℕ). among w.address k i) (length-take w.count y) ∙ e)
    put_kept (Takes n) e = nothing_put [] refl

    stores_by : (b : Bool) → gives_bytes (rule_of code).act ≡ b → both b (among w.address (bytes_moved w (report_of (command g t s o code v))) i) ≡ false
        → get_or (placed st w (given (command g t s o code v).moves)) i 0 ≡ get_or st i 0
    unfolding bytes_moved report_of
    stores_by true e f = put_kept (command g t s o code v).moves f
    stores_by false e f = nothing_put _ (only_reads_give g t s o code v e)

  pub command_confined : WholeTrack (t s.head) → CommandConfined g t s o code v
  unfolding track_after may_store is_check
  command_confined wh =
      let in_reach = command_within g t s o code v wh in
      record {
        cells = λ i e. within_kept _ _ (t s.head) in_reach wh.long i e;
        inside = within_on s.head (may_change (rule_of code) o (t s.head)) (command g t s o code v).lays (lays_here g t s o code v) in_reach;
        long = within_long _ _ (t s.head) in_reach wh.long ∙ sym wh.long;
        unlicensed = λ e. never_acts (λ k n A. false≢true (sym e ∙ A.licence));
        barred = λ e. never_acts (λ k n A. false≢true (sym A.mask ∙ e));
        checks = λ row e. nothing_laid (check_lays g t s o code v (ap is_check e));
        storage = λ w st room i e. stores_by w st room i (gives_bytes (rule_of code).act) refl e;
      }
