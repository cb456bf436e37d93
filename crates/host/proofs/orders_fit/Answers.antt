-- `host::orders_fit` meets its contract: mask, tally, then selection.
use mathlib.Core.Path.{◌∙◌}
use borrow.Author.Tests.{lt-leb}
use Rattle.host.proofs.Tells.{bad_mask, bad_tally, by_selection}
use Rattle.host.proofs.orders_fit.Goals as goal

pub returns-then-o-le-MOST_TALLY : goal.returns-then-o-le-MOST_TALLY
returns-then-o-le-MOST_TALLY c = by_selection _ _ _ c.is_mask.ensures c.if-is_mask.true c.if-o-le-MOST_TALLY.true _ c.selection_fits.ensures

pub returns-else-o-le-MOST_TALLY : goal.returns-else-o-le-MOST_TALLY
returns-else-o-le-MOST_TALLY c = lt-leb _ _ c.if-o-le-MOST_TALLY.false ∙ bad_tally _ _ _ c.is_mask.ensures c.if-is_mask.true c.if-o-le-MOST_TALLY.false

pub returns-else-is_mask : goal.returns-else-is_mask
returns-else-is_mask c = c.if-is_mask.false ∙ bad_mask _ _ _ c.is_mask.ensures c.if-is_mask.false
