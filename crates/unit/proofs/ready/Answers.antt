-- The row is that of the code, the plan is the row's, and what a task names is read.
use Rattle.std.proofs.lemmas.Result.{err_from_is_err_and}
use Rattle.unit.proofs.Laws.{refuses, works}
use Rattle.unit.proofs.ready.Goals as goal

pub returns-in_err-k : goal.returns-in_err-k
returns-in_err-k c =
    let p = err_from_is_err_and c.from_residual.result c.from_residual.ensures.1 in
    rw (p.1, p.2) (refuses _ _ _ _ _ _ c.rule_of-rule.ensures c.plan.ensures _ c.in_err-k.was)

pub returns : goal.returns
returns c = works _ _ _ _ _ _ c.rule_of-rule.ensures c.plan.ensures _ _ c.in_ok-k.was c.read.ensures
