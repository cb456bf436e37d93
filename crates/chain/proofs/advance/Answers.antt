-- `chain::advance` meets its contract: a run of No-ops in one stroke, or one step of the model.
use mathlib.Core.Path.{sym, ◌∙◌}
use Rattle.chain.proofs.Strokes.{by_step, by_stroke}
use Rattle.chain.proofs.advance.Goals as goal

pub pass_no_ops-requires : goal.pass_no_ops-requires
pass_no_ops-requires c =
    let s = c.requires in
    (s.1, s.2, sym c.is_chained_no_op_at.ensures ∙ c.if-is_chained_no_op_at.true)

pub returns-then-is_chained_no_op_at : goal.returns-then-is_chained_no_op_at
returns-then-is_chained_no_op_at c = by_stroke _ _ _ _ _ _ _ c.requires.0 c.pass_no_ops.ensures

pub returns : goal.returns
returns c =
    let called = c.step-held in
    let s = c.requires in
    by_step _ _ _ _ s.0 s.1 s.2 called.ensures
