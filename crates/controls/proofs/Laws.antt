-- What the code says of a control command is what is reported of the model's turn; and the bytes that Sense gives.
use Prim.Native.Nat.{ℕ, zero, suc, ◌+◌, ◌-◌, ◌≤◌, ◌<◌, min}
use mathlib.Core.Path.{◌≡◌, refl, sym, ap, ◌∙◌}
use mathlib.Core.Bool.{Bool, false}
use mathlib.Core.List.{List}
use native.Mathlib.Nat.{zero-add}
use native.Mathlib.Omega.{arith}
use lib.ListN.{length, get_or, take, drop, set, replicate, length-drop}
use lib.Seq.{take-length, get_or-drop}
use Rattle.cells.specs.Cells.{overlay, marks}
use Rattle.cells.proofs.Laws.{take_min, put_more}
use Rattle.cells.proofs.Tests.{first_picked, second_picked}
use Rattle.rows.specs.declared.{Row.Row}
use Rattle.pack.specs.declared.{Cylinder.Cylinder, Head.Head, Shape.Shape}
use Rattle.held.specs.Held.{no_sense}
use Rattle.held.specs.declared.{Position.Position}
use Rattle.hunt.specs.Hunt.{space_record}
use Rattle.turn.specs.declared.Ending.TheVariants.{Normal}
use Rattle.table.specs.declared.{Rule.Rule, Control.Control}
use Rattle.table.specs.Table.{rule_of, is_home}
use Rattle.turn.specs.declared.{Report.Report, Transfer.Transfer}
use Rattle.turn.specs.Turn.{Tracks, alone, transfer_of, report_of, position_at, position_sought, orders_of}
use Rattle.command.specs.declared.{Job.Job}
use Rattle.command.specs.Command.{task, sight, end_turn_at, end_turn, fail_turn, position_after, orders_after, arrival_turn, masked_turn, no_op_turn, sense_turn, sense_bytes, spaced_place, space_turn, control_turn}
use Rattle.ending.specs.Ending.{report, report_at}
use Rattle.std.specs.Prelude.{None, Ok, Err, Result, true}

-- ---- the bytes of sense

zeros : (n i : ℕ) → get_or {A = ℕ} (replicate n 0) i 0 ≡ 0
zeros zero i = refl
zeros (suc n) zero = refl
zeros (suc n) (suc i) = zeros n i

module _ (s : Position) where
  -- all but the first two are 0
  pub sense-rest : (i : ℕ) → 2 ≤ i → get_or (sense_bytes s) i 0 ≡ 0
  unfolding sense_bytes
  sense-rest zero h = absurd (omega arith)
  sense-rest (suc zero) h = absurd (omega arith)
  sense-rest (suc (suc i)) h = zeros 4 i

  module _ (from : ℕ) where
    -- there are six
    left : length (drop from (sense_bytes s)) ≡ 6 - from
    unfolding sense_bytes
    left = length-drop from (sense_bytes s)

    -- one more of them
    pub sense_more : (l : List ℕ) (i : ℕ) → i < length l → i < 6 - from
        → set (overlay l 0 (take i (drop from (sense_bytes s)))) i (get_or (sense_bytes s) (from + i) 0) ≡ overlay l 0 (take (i + 1) (drop from (sense_bytes s)))
    sense_more l i h k =
        ap (set (overlay l 0 (take i (drop from (sense_bytes s)))) i) (sym (get_or-drop from (sense_bytes s) i 0))
        ∙ (simp zero-add at (put_more l 0 (drop from (sense_bytes s)) i (simp zero-add h) (rw (left) k)))

    -- no more than there are
    pub sense_room : (m : ℕ) → take (min m (6 - from)) (drop from (sense_bytes s)) ≡ take m (drop from (sense_bytes s))
    sense_room m =
        ap (λ (n : ℕ). take (min m n) (drop from (sense_bytes s))) (sym left)
        ∙ sym (take_min m _ (drop from (sense_bytes s))) ∙ ap (take m) (take-length (drop from (sense_bytes s)))

-- ---- control commands

pub spaced : (t : List ℕ) (j : Job) (v : List ℕ) (r : Report) (p : ℕ) (home : Bool) (rule : Rule)
    → r ≡ report_at j (task j.task.head p None 0) Normal Transfer.None false
    → rule ≡ rule_of j.orders.before → home ≡ is_home rule.aim → p ≡ space_record (marks t) j.position.place home
    → r ≡ report_of (space_turn (sight (alone t) j v))
unfolding report_at report_of transfer_of space_turn spaced_place end_turn_at sight
spaced t j v r p home rule d e f g = rw (d, g, f, e)

module _ (t : Tracks) (j : Job) (v : List ℕ) (r : Report) where
  -- a seek
  pub arrived : (x : Result (Cylinder × Head) Row) (c : Cylinder) (h : Head) → x ≡ Ok (c, h)
      → report_of (arrival_turn (sight t j v) x) ≡ report Normal (Transfer.Takes 6) (record { cylinder = c; head = h; place = 0; sense = no_sense }) (orders_after j j.task false)
  unfolding report_of transfer_of arrival_turn sight position_sought position_at
  arrived x c h e = rw e refl

  pub not_arrived : (x : Result (Cylinder × Head) Row) (row : Row) → x ≡ Err row
      → r ≡ report_of (fail_turn (sight t j v) row) → r ≡ report_of (arrival_turn (sight t j v) x)
  unfolding arrival_turn
  not_arrived x row e f = rw (e, f)

  -- a mask set
  pub masked_told : (byte : ℕ) → r ≡ report Normal (Transfer.Takes 1) (position_after j j.task) (orders_of byte true j.code false 0 None)
      → r ≡ report_of (masked_turn (sight t j v) byte)
  unfolding report_of transfer_of masked_turn sight
  masked_told byte f = f

  -- by the command
  module _ (g : Shape) (k : Control) where
    pub tells_no_op : k ≡ Control.NoOp → r ≡ report_at j j.task Normal Transfer.None false → r ≡ report_of (control_turn g k (sight t j v))
    unfolding report_at report_of transfer_of end_turn_at end_turn no_op_turn control_turn sight
    tells_no_op e f = rw (e, f)

    pub tells_sense : k ≡ Control.Sense → r ≡ report_at j j.task Normal (Transfer.Gives 6) false → r ≡ report_of (control_turn g k (sight t j v))
    unfolding report_at report_of transfer_of end_turn_at end_turn sense_bytes sense_turn control_turn sight
    tells_sense e f = rw (e, f)

    pub tells_space : k ≡ Control.SpaceRecord → r ≡ report_of (space_turn (sight t j v)) → r ≡ report_of (control_turn g k (sight t j v))
    unfolding control_turn
    tells_space e f = rw (e, f)

-- how a seek ends
pub ruleset arrivals = (arrived, not_arrived)

-- which side of a choice is taken
pub ruleset picked = (first_picked, second_picked)

-- what a control command tells, where its arm names no model's function
pub ruleset tells = (tells_no_op, tells_sense, tells_space)
