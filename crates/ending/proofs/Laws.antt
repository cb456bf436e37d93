-- What the code says at a command's end is what is reported of the model's turn.
use Prim.Native.Nat.{ℕ}
use mathlib.Core.Path.{◌≡◌, refl}
use mathlib.Core.Bool.{Bool}
use mathlib.Core.List.{List}
use Rattle.rows.specs.declared.{Row.Row}
use Rattle.held.specs.declared.{Position.Position, Orders.Orders}
use Rattle.turn.specs.declared.{Ending.Ending}
use Rattle.turn.specs.Turn.{Tracks, TrackArea, Piece, Moves, transfer_of, report_of, check_turn}
use Rattle.command.specs.declared.{Task.Task, Job.Job}
use Rattle.command.specs.Command.{Sight, sight, end_turn_at, end_turn, fail_turn}
use Rattle.ending.specs.Ending.{report_at, check_report}

module _ (x : Sight) (e : Ending) (m : Moves) (l : List Piece) (whole : Bool) where
  pub ended_at : (k : Task) → report_of (end_turn_at x k e m l whole) ≡ report_at x.job k e (transfer_of m) whole
  unfolding report_of end_turn_at report_at
  ended_at k = refl

  pub ended : report_of (end_turn x e m l whole) ≡ report_at x.job x.job.task e (transfer_of m) whole
  unfolding end_turn
  ended = ended_at x.job.task

pub failed : (s : Position) (o : Orders) (l : List TrackArea) (row : Row) → report_of (check_turn s o l row) ≡ check_report s o row
unfolding report_of check_turn check_report transfer_of
failed s o l row = refl

pub job_failed : (t : Tracks) (j : Job) (v : List ℕ) (row : Row) → report_of (fail_turn (sight t j v) row) ≡ check_report j.position j.orders row
unfolding fail_turn sight
job_failed t j v row = failed j.position j.orders _ row
