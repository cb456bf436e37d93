-- `chain::run` meets its contract. The invariant: what is left of the allowance, from the world as it is, comes to the whole from the world
-- as it was; and a legal world stays legal.
use mathlib.Core.Path.{refl, sym, ◌∙◌}
use native.Mathlib.Omega.{arith}
use borrow.Author.Tests.{not-true, not-false}
use Rattle.chain.proofs.Runs.{run_idle, run_none}
use Rattle.chain.proofs.run.Goals as goal

pub loop-left-init : goal.loop-left-init
loop-left-init c = (refl, c.requires, refl, refl)

pub returns-then-not-held : goal.returns-then-not-held
returns-then-not-held c = sym (c.loop-left.invariant.0 ∙ run_idle _ _ _ (not-true _ c.if-not-held.true))

pub advance-reached-requires : goal.advance-reached-requires
advance-reached-requires c =
    let l = c.loop-left in
    (l.invariant.1, omega (arith, c.loop-left-test.true), not-false _ c.if-not-held.false)

pub loop-left-preserved : goal.loop-left-preserved
loop-left-preserved c =
    let called = c.advance-reached in
    let l = c.loop-left in
    (l.invariant.0 ∙ called.ensures.0, called.ensures.1, called.auto.storage ∙ l.invariant.2, called.auto.cells ∙ l.invariant.3)

pub returns : goal.returns
returns c = sym (c.loop-left.invariant.0 ∙ run_none _ _ _ c.loop-left-test.false)
