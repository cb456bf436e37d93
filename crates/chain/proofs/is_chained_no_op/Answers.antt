-- `chain::is_chained_no_op` meets its contract: the code, then flag 40.
use mathlib.Core.Path.{◌∙◌}
use borrow.Author.Tests.{ne_eqb}
use Rattle.chain.proofs.Strokes.{other_code, by_flag}
use Rattle.chain.proofs.is_chained_no_op.Goals as goal

pub returns-then-w-eq-NO_OP : goal.returns-then-w-eq-NO_OP
returns-then-w-eq-NO_OP c = by_flag _ c.if-w-eq-NO_OP.true

pub returns-else-w-eq-NO_OP : goal.returns-else-w-eq-NO_OP
returns-else-w-eq-NO_OP c = ne_eqb _ _ c.if-w-eq-NO_OP.false ∙ other_code _ c.if-w-eq-NO_OP.false
