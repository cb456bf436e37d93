-- It makes the model's tests, in their order; count left, or more wanted, is that the two numbers differ.
use mathlib.Core.Path.{ap, ◌∙◌}
use mathlib.Core.Bool.{not}
use borrow.Author.Tests.{eq-eqb}
use Rattle.channel.proofs.Laws.{not_counted, suppressed, by_wanted}
use Rattle.channel.proofs.wrong_length.Goals as goal

pub returns-then-w-ne1 : goal.returns-then-w-ne1
returns-then-w-ne1 c = rw c.from.ensures (by_wanted _ _ _ _ c.length_counts.ensures c.if-length_counts.true c.if-w-ne1.true c.wants.ensures)

pub returns-else-w-ne1 : goal.returns-else-w-ne1
returns-else-w-ne1 c =
    ap not (eq-eqb _ _ c.if-w-ne1.false) ∙ suppressed _ _ _ c.length_counts.ensures c.if-length_counts.true c.if-w-ne1.false

pub returns-else-length_counts : goal.returns-else-length_counts
returns-else-length_counts c = c.if-length_counts.false ∙ not_counted _ _ _ c.length_counts.ensures c.if-length_counts.false
