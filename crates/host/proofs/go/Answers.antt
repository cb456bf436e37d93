-- `host::go` meets its contract: the refusals, no chain, then the run.
use mathlib.Core.Path.{sym, ◌∙◌}
use borrow.Author.Tests.{not-true, not-false}
use Rattle.host.proofs.Laws.{passes_legal}
use Rattle.host.proofs.Tells.{go_refused, go_idle, go_runs}
use Rattle.host.proofs.go.Goals as goal

pub returns-in-Err : goal.returns-in-Err
returns-in-Err c = go_refused _ _ _ c.guard.ensures _ _ c.in-Err.is

pub returns-then-not-h : goal.returns-then-not-h
returns-then-not-h c = go_idle _ _ _ c.guard.ensures _ c.in_default.is (not-true _ c.if-not-h.true)

pub run-requires : goal.run-requires
run-requires c = passes_legal _ _ (sym c.guard.ensures ∙ c.in_default.is)

pub returns : goal.returns
returns c =
    go_runs _ _ _ c.guard.ensures _ c.in_default.is (not-false _ c.if-not-h.false) _ _ _ _ _ c.run.ensures c.told.ensures.0 c.told.ensures.1
