-- What a command comes to before it acts decides its turn: a row ends it, or the job acts, whose areas were all readable.
use Prim.Native.Nat.{ℕ}
use mathlib.Core.Path.{◌≡◌, refl, sym, ap, subst}
use mathlib.Core.List.{List}
use Rattle.rows.specs.declared.{Row.Row}
use Rattle.pack.specs.declared.{Shape.Shape}
use Rattle.held.specs.declared.{Position.Position, Orders.Orders}
use Rattle.command.specs.declared.{Task.Task, Job.Job}
use Rattle.table.specs.declared.{Rule.Rule}
use Rattle.table.specs.Table.{rule_of}
use Rattle.turn.specs.Turn.{Tracks, TrackArea, check_turn}
use Rattle.command.specs.Command.{marks_of, plan_of, gets, Sighted, sight, act_turn, has_read, ready_by, plan_reads, ready_turn, rule_turn, command, ready_of}
use Rattle.std.specs.Prelude.{Err, Ok, Result}
use Rattle.areas.specs.declared.{Counts.Counts}

abbrev ReadySighted : Tracks → Result Job Row → Type 0
ReadySighted t (Err row) = Unit {0}
ReadySighted t (Ok j) = Sighted t j

read_sighted : (t : Tracks) (code : ℕ) (r : Rule) (s : Position) (o : Orders) (k : Task) (x : Result Counts Row) → r ≡ rule_of code
    → gets r.names t k.head k.place ≡ x → ReadySighted t (has_read code r s o k x)
unfolding has_read
read_sighted t code r s o k (Ok n) p e = record { act = ap (λ (x : Rule). x.act) p; names = ap (λ (x : Rule). x.names) p; sees = e }
read_sighted t code r s o k (Err row) p e = tt

plan_sighted : (t : Tracks) (code : ℕ) (r : Rule) (s : Position) (o : Orders) (p : Result Task Row) → r ≡ rule_of code → ReadySighted t (ready_by t code r s o p)
unfolding ready_by
plan_sighted t code r s o (Err row) e = tt
plan_sighted t code r s o (Ok k) e = read_sighted t code r s o k _ e refl

module _ (t : Tracks) (s : Position) (o : Orders) (code : ℕ) where
  pub job_sighted : (j : Job) → Ok j ≡ ready_of t s o code → Sighted t j
  unfolding ready_of
  job_sighted j e = subst (ReadySighted t) (sym e) (plan_sighted t code (rule_of code) s o (plan_of (rule_of code) (marks_of t) s o) refl)

  abbrev reads : List TrackArea
  reads = plan_reads t (rule_of code) (plan_of (rule_of code) (marks_of t) s o)

  pub job_acts : (j : Job) → Ok j ≡ ready_of t s o code → (g : Shape) (v : List ℕ) → act_turn g j.act (sight t j v) ≡ command g t s o code v
  unfolding command rule_turn ready_of ready_turn
  job_acts j e g v = ap (ready_turn g t s o v reads) e

  pub row_ends : (row : Row) → Err row ≡ ready_of t s o code → (g : Shape) (v : List ℕ) → check_turn s o reads row ≡ command g t s o code v
  unfolding command rule_turn ready_of ready_turn
  row_ends row e g v = ap (ready_turn g t s o v reads) e
