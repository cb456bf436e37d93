-- What the unit's calls come to, in the model's words.
use Prim.Native.Nat.{ℕ}
use mathlib.Core.Path.{◌≡◌, sym, ap, ◌∙◌}
use mathlib.Core.Bool.{false}
use mathlib.Core.List.{List, []}
use lib.ListN.{length, take}
use lib.Seq.{take-nil, drop-nil}
use Rattle.table.specs.Table.{is_write, rule_of}
use Rattle.cells.specs.Cells.{overlay}
use Rattle.cells.proofs.Laws.{overlay_none}
use Rattle.rows.specs.declared.{Row.Row}
use Rattle.areas.specs.declared.{Counts.Counts}
use Rattle.pack.specs.declared.{Head.Head, Shape.Shape}
use Rattle.held.specs.declared.{Position.Position, Orders.Orders}
use Rattle.command.specs.declared.{Task.Task, Job.Job}
use Rattle.table.specs.declared.{Control.Control, Act.Act, Write.Write, Rule.Rule}
use Rattle.turn.specs.declared.{Report.Report}
use Rattle.turn.specs.Turn.{Tracks, Piece, alone, given, filled, report_of, lay, is_check}
use Rattle.command.specs.Command.{marks_of, plan_of, gets, Sight, sight, end_turn, end_turn_at, sense_bytes, sense_turn, control_turn, write_turn, act_turn, job_of, has_read, ready_by, ready_of}
use Rattle.unit.specs.Unit.{Accepts}
use Rattle.command.specs.Frame.{gives_bytes}
use Rattle.command.proofs.Acts.{acts_keeps}
use Rattle.std.specs.Prelude.{Err, Ok, Result}

-- ---- before it acts

module _ (t : Tracks) (code : ℕ) (r : Rule) (s : Position) (o : Orders) (k : Task) (x : Result Counts Row) (got : (h : Head) → x ≡ gets r.names t h k.place) where
  pub all_read_lem : (n : Counts) → x ≡ Ok n → Ok (job_of code r s o k n) ≡ ready_by t code r s o (Ok k)
  unfolding ready_by has_read
  all_read_lem n e = ap (has_read code r s o k) (sym e ∙ got k.head)

  pub not_read : (row : Row) → x ≡ Err row → Err row ≡ ready_by t code r s o (Ok k)
  unfolding ready_by has_read
  not_read row e = ap (has_read code r s o k) (sym e ∙ got k.head)

module _ (t : Tracks) (code : ℕ) (r : Rule) (s : Position) (o : Orders) (p : Result Task Row) (rule : r ≡ rule_of code) (plan : p ≡ plan_of r (marks_of t) s o) where
  comes : ready_by t code r s o p ≡ ready_of t s o code
  unfolding ready_of
  comes = ap (ready_by t code r s o) plan ∙ ap (λ (z : Rule). ready_by t code z s o (plan_of z (marks_of t) s o)) rule

  pub refuses : (row : Row) → p ≡ Err row → Err row ≡ ready_of t s o code
  unfolding ready_by
  refuses row e = ap (ready_by t code r s o) (sym e) ∙ comes

  pub works : (k : Task) (y : Result Job Row) → p ≡ Ok k → y ≡ ready_by t code r s o (Ok k) → y ≡ ready_of t s o code
  works k y e q = q ∙ ap (ready_by t code r s o) (sym e) ∙ comes

-- ---- by what it does

pub told_by : (g : Shape) (x : Sight) (a b : Act) (d : Report) → a ≡ b → d ≡ report_of (act_turn g b x) → d ≡ report_of (act_turn g a x)
told_by g x a b d e q = q ∙ ap (λ (z : Act). report_of (act_turn g z x)) (sym e)

-- nothing given: lent bytes stay
pub filled_none : (l : List ℕ) (from : ℕ) → l ≡ filled l from []
unfolding filled
filled_none l from = sym (ap (λ (v : List ℕ). overlay l 0 (take (length l) v)) (drop-nil from) ∙ ap (overlay l 0) (take-nil (length l)) ∙ overlay_none l 0)

pub none_given : (l : List ℕ) (from : ℕ) (g : Shape) (x : Sight) (a : Act) → gives_bytes a ≡ false → l ≡ filled l from (given (act_turn g a x).moves)
none_given l from g x a e = filled_none l from ∙ ap (filled l from) (sym ((acts_keeps x g a).quiet e))

pub given_by : (l u : List ℕ) (from : ℕ) (g : Shape) (x : Sight) (a b : Act) → a ≡ b → u ≡ filled l from (given (act_turn g b x).moves)
    → u ≡ filled l from (given (act_turn g a x).moves)
given_by l u from g x a b e q = q ∙ ap (λ (z : Act). filled l from (given (act_turn g z x).moves)) (sym e)

pub sense-given : (l u : List ℕ) (from : ℕ) (g : Shape) (x : Sight) (k : Control) → k ≡ Control.Sense → u ≡ filled l from (sense_bytes x.job.position)
    → u ≡ filled l from (given (control_turn g k x).moves)
unfolding control_turn sense_turn end_turn end_turn_at given
sense-given l u from g x k e q = q ∙ ap (λ (z : Control). filled l from (given (control_turn g z x).moves)) (sym e)

pub none_laid : (t : List ℕ) (g : Shape) (x : Sight) (a b : Act) → a ≡ b → is_write b ≡ false → t ≡ lay (act_turn g a x).lays t
unfolding lay
none_laid t g x a b e q = sym (ap (λ (z : Act). lay (act_turn g z x).lays t) e ∙ ap (λ (l : List Piece). lay l t) ((acts_keeps x g b).still q))

pub laid_by : (t u : List ℕ) (g : Shape) (x : Sight) (a b : Act) → a ≡ b → u ≡ lay (act_turn g b x).lays t → u ≡ lay (act_turn g a x).lays t
laid_by t u g x a b e q = q ∙ ap (λ (z : Act). lay (act_turn g z x).lays t) (sym e)

-- a write that does not end in Unit Check
pub accepts_by : (j : Job) (v t : List ℕ) (w : Write) → j.act ≡ Act.Write w → Accepts j v t → is_check (write_turn w (sight (alone t) j v)).ending ≡ false
unfolding act_turn
accepts_by j v t w e h = ap (λ (a : Act). is_check (act_turn h.shape a (sight (alone t) j v)).ending) (sym e) ∙ h.ends
