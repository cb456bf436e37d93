-- What a command reads is what its plan reads, however it ends; what it lays is under the plan's head. Why: up to its act only a row or a job is found,
-- and an act keeps to what its job has read.
use Prim.Native.Nat.{ℕ}
use mathlib.Core.Path.{◌≡◌}
use mathlib.Core.Bool.{true, false}
use mathlib.Core.List.{List, []}
use Rattle.table.specs.Table.{is_write, rule_of}
use Rattle.pack.specs.declared.{Shape.Shape}
use Rattle.held.specs.declared.{Position.Position, Orders.Orders}
use Rattle.command.specs.declared.{Task.Task}
use Rattle.table.specs.declared.{Rule.Rule}
use Rattle.turn.specs.Turn.{Tracks, Turn, given, is_check}
use Rattle.command.specs.Command.{marks_of, plan_of, areas_of, areas_read, sight, job_of, has_read, ready_by, plan_reads, ready_turn, rule_turn, command}
use Rattle.command.specs.Frame.{plan_head, LaysUnder, gives_bytes}
use Rattle.command.proofs.Acts.{Keeps, check_keeps, acts_keeps}
use Rattle.std.specs.Prelude.{Ok, Err, Result}
use Rattle.rows.specs.declared.{Row.Row}
use Rattle.areas.specs.declared.{Counts.Counts}

module _ (g : Shape) (t : Tracks) (s : Position) (o : Orders) (code : ℕ) (v : List ℕ) where
  -- ---- from a plan on

  -- the turn that a plan comes to
  abbrev pub plan_turn : Rule → Result Task Row → Turn
  plan_turn r p = ready_turn g t s o v (plan_reads t r p) (ready_by t code r s o p)

  got_keeps : (r : Rule) (k : Task) (x : Result Counts Row)
      → Keeps r.act (areas_of r.names t k.head k.place) k.head
      (ready_turn g t s o v (areas_of r.names t k.head k.place) (has_read code r s o k x))
  unfolding has_read ready_turn sight areas_read
  got_keeps r k (Ok n) = acts_keeps (sight t (job_of code r s o k n) v) g r.act
  got_keeps r k (Err row) = check_keeps r.act _ k.head s o row

  pub plan_keeps : (r : Rule) (p : Result Task Row) → Keeps r.act (plan_reads t r p) (plan_head s p) (plan_turn r p)
  unfolding plan_reads plan_head ready_by ready_turn
  plan_keeps r (Err row) = check_keeps r.act [] s.head s o row
  plan_keeps r (Ok k) = got_keeps r k _

  -- ---- a command

  abbrev planned : Result Task Row
  planned = plan_of (rule_of code) (marks_of t) s o

  command_keeps : Keeps (rule_of code).act (plan_reads t (rule_of code) planned) (plan_head s planned) (command g t s o code v)
  unfolding command rule_turn
  command_keeps = plan_keeps (rule_of code) _

  pub command-reads : (command g t s o code v).reads ≡ plan_reads t (rule_of code) (plan_of (rule_of code) (marks_of t) s o)
  command-reads = command_keeps.reads

  pub command_lays : LaysUnder (plan_head s (plan_of (rule_of code) (marks_of t) s o)) (command g t s o code v).lays
  command_lays = command_keeps.under

  -- a Unit Check lays nothing
  pub check_lays : is_check (command g t s o code v).ending ≡ true → (command g t s o code v).lays ≡ []
  check_lays = command_keeps.lays.checked

  -- only a write lays anything
  pub only_writes-lay : is_write (rule_of code).act ≡ false → (command g t s o code v).lays ≡ []
  only_writes-lay = command_keeps.still

  -- only a read or Sense gives bytes
  pub only_reads_give : gives_bytes (rule_of code).act ≡ false → given (command g t s o code v).moves ≡ []
  only_reads_give = command_keeps.quiet
