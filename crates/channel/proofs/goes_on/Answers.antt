-- It makes the model's tests, in their order.
use mathlib.Core.Path.{◌∙◌}
use borrow.Author.Tests.{ne_eqb}
use Rattle.channel.proofs.Laws.{no_chaining, wrong_ends, by_ending}
use Rattle.channel.proofs.goes_on.Goals as goal

pub returns-then-not-wrong_length : goal.returns-then-not-wrong_length
returns-then-not-wrong_length c = c.ends_well.ensures ∙ by_ending _ _ _ c.if-w-eq1.true c.wrong_length.ensures c.if-not-wrong_length.true

pub returns-else-not-wrong_length : goal.returns-else-not-wrong_length
returns-else-not-wrong_length c = c.if-not-wrong_length.false-raw ∙ wrong_ends _ _ _ c.if-w-eq1.true c.wrong_length.ensures c.if-not-wrong_length.false

pub returns-else-w-eq1 : goal.returns-else-w-eq1
returns-else-w-eq1 c = ne_eqb _ _ c.if-w-eq1.false ∙ no_chaining _ _ c.if-w-eq1.false
