-- The turn of a job on one track, and what the unit asks of its callers.
use Rattle.std.specs.Prelude.{ℕ, ◌≡◌, false, List}
use Rattle.pack.specs.declared.{Shape.Shape}
use Rattle.turn.specs.Turn.{alone, Turn, is_check}
use Rattle.command.specs.declared.{Job.Job}
use Rattle.command.specs.Command.{sight, act_turn}

-- the turn of a job on this track, with these bytes sent
abbrev pub job_turn : Shape → List ℕ → Job → List ℕ → Turn
job_turn g t j v = act_turn g j.act (sight (alone t) j v)

-- it does not end in Unit Check
pub record Accepts (j : Job) (v t : List ℕ) : Type 0 where
  pub shape : Shape
  pub ends : is_check (job_turn shape t j v).ending ≡ false
