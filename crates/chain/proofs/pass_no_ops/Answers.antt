-- `chain::pass_no_ops` meets its contract. The invariant: the No-ops so far are one stroke, which has used as many words of the allowance.
use Prim.Native.Nat.{◌+◌, ◌-◌}
use mathlib.Core.Path.{◌≡◌, subst}
use native.Mathlib.Omega.{arith}
use Rattle.chain.specs.Stroke.{SameRun}
use Rattle.chain.proofs.Strokes.{no_ops_first, no_ops_more, no_ops_told}
use Rattle.chain.proofs.pass_no_ops.Goals as goal

pub loop-passed-init : goal.loop-passed-init
loop-passed-init c =
    let s = c.requires in
    no_ops_first _ _ _ s.1 _ c.advanced-next.ensures s.0 s.2

pub returns-then-not-is_chained_no_op_at : goal.returns-then-not-is_chained_no_op_at
returns-then-not-is_chained_no_op_at c = no_ops_told _ _ _ _ _ _ c.loop-passed.invariant c.after_no_ops.ensures

pub loop-passed-preserved : goal.loop-passed-preserved
loop-passed-preserved c =
    let e : c.args.allowance - (c.loop-passed.passed + 1) ≡ c.args.allowance - c.loop-passed.passed - 1 = omega arith in
    rw e
    (no_ops_more _ _ _ c.requires.1 _ _ c.loop-passed.invariant _ _ c.advanced-next-in-loop-passed.ensures (omega (arith, c.loop-passed-test.true))
    c.is_chained_no_op_at.ensures c.if-not-is_chained_no_op_at.false)

pub returns : goal.returns
returns c =
    let e : c.args.allowance - c.loop-passed.passed ≡ 0 = omega (arith, c.loop-passed-test.false) in
    let told = no_ops_told _ _ _ _ _ _ c.loop-passed.invariant c.after_no_ops-2.ensures in
    (subst (SameRun _ _ _ _) e told.0, omega (arith, c.requires.0))
