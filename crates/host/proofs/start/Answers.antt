-- `host::start` meets its contract: the refusals, a chain going, then the first word.
use mathlib.Core.Path.{sym, ap, ◌∙◌}
use Rattle.host.specs.Host.{started}
use Rattle.host.proofs.Laws.{passes_legal}
use Rattle.host.proofs.Tells.{start_refused, start_going, start-begins}
use Rattle.host.proofs.start.Goals as goal

pub returns-in-Err : goal.returns-in-Err
returns-in-Err c = start_refused _ _ _ c.guard.ensures _ c.in-Err.is

pub returns-then-h : goal.returns-then-h
returns-then-h c = start_going _ _ _ c.guard.ensures c.in_default.is c.if-h.true

pub refuse-requires : goal.refuse-requires
refuse-requires c = (passes_legal _ _ (sym c.guard.ensures ∙ c.in_default.is)).room

pub returns-in-Some : goal.returns-in-Some
unfolding started
returns-in-Some c = start-begins _ _ _ c.guard.ensures c.in_default.is c.if-h.false _ (ap (started _) (sym c.in-Some.is) ∙ c.begin.ensures _)

pub returns-in-None : goal.returns-in-None
unfolding started
returns-in-None c = start-begins _ _ _ c.guard.ensures c.in_default.is c.if-h.false _ (c.refuse.ensures _ ∙ ap (started _) (sym c.in-None.is) ∙ c.begin.ensures _)
