-- `chain::pass_no_ops` meets its contract. The invariant: the No-ops so far are one stroke, which has used as many words of the allowance.
use Prim.Native.Nat.{◌-◌, ◌<◌}
use Rattle.chain.specs.Stroke.{after_no_ops, SameRun}
use Rattle.chain.proofs.pass_no_ops.Given as goal

abbrev pub invariant-loop-passed : goal.invariant-loop-passed
invariant-loop-passed l = SameRun l.storage l.h l.allowance (after_no_ops l.h l.next) (l.allowance - l.passed) × (l.allowance - l.passed < l.allowance)
