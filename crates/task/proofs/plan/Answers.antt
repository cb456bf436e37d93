-- The mask's row stands before what is aimed at.
use mathlib.Core.Path.{sym, ◌∙◌}
use Rattle.task.proofs.Laws.{plan_barred, plan_aimed}
use Rattle.task.proofs.plan.Goals as goal

pub returns-in_err-unbarred : goal.returns-in_err-unbarred
returns-in_err-unbarred c =
    plan_barred _ _ _ _ (sym c.licensed.ensures ∙ c.if-not-licensed.false) _ c.unbarred.ensures _ _ c.in_err-unbarred.was c.from_residual.ensures.1

pub returns : goal.returns
returns c = plan_aimed _ _ _ _ (sym c.licensed.ensures ∙ c.if-not-licensed.false) _ c.unbarred.ensures _ _ c.in_ok-unbarred.was c.aimed.ensures
