-- A row ends the command, or its job acts, all of whose areas were readable.
use mathlib.Core.Path.{sym, ◌∙◌}
use Rattle.command.proofs.Comes.{job_sighted}
use Rattle.channel.proofs.Turns.{row_acted, job_acted}
use Rattle.channel.proofs.turn.Goals as goal

pub act-requires : goal.act-requires
act-requires c = job_sighted _ _ _ _ _ (sym c.in-Ok.is ∙ c.ready.ensures)

pub returns-in-Err : goal.returns-in-Err
returns-in-Err c = row_acted _ _ _ _ _ _ _ c.ready.ensures _ _ c.in-Err.is c.failed.ensures

pub returns-in-Ok : goal.returns-in-Ok
returns-in-Ok c = job_acted _ _ _ _ _ _ _ c.ready.ensures _ _ _ _ c.in-Ok.is c.act.ensures
