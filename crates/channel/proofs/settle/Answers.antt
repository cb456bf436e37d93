-- By whether the chain goes on: the next word, or the status word.
use mathlib.Core.Path.{ap, ◌∙◌}
use Rattle.words.specs.Words.{stored}
use Rattle.channel.proofs.Laws.{held_on, held_rests, storage_on, storage_ends, storable}
use Rattle.channel.proofs.settle.Goals as goal

pub returns-then-goes_on : goal.returns-then-goes_on
returns-then-goes_on c =
    (held_on _ _ _ _ _ _ c.goes_on.ensures c.if-goes_on.true c.stride.ensures c.onward.ensures, storage_on _ _ _ _ _ c.goes_on.ensures c.if-goes_on.true)

pub store_status-requires : goal.store_status-requires
store_status-requires c = storable _ _ _ _ _ c.status_after.ensures c.requires.0 c.requires.1

pub returns : goal.returns
returns c = (
  c.rested.ensures ∙ held_rests _ _ _ _ c.goes_on.ensures c.if-goes_on.false,
  c.store_status.ensures ∙ ap (stored _) c.status_after.ensures ∙ storage_ends _ _ _ _ _ c.goes_on.ensures c.if-goes_on.false,
)
