-- `host::held_fits` meets its contract: where the head stands, the channel's part, then the orders by the one track that is lent.
use mathlib.Core.Path.{sym, ◌∙◌}
use borrow.Author.Tests.{not-false}
use Rattle.chain.proofs.Fits.{position_on_lem}
use Rattle.host.proofs.Tells.{bad_stands, bad_channel, by_orders}
use Rattle.host.proofs.held_fits.Goals as goal

pub returns-then-not-position_fits : goal.returns-then-not-position_fits
returns-then-not-position_fits c = bad_stands _ _ _ _ c.position_fits.ensures c.if-not-position_fits.true

pub returns-then-not-channel_fits : goal.returns-then-not-channel_fits
returns-then-not-channel_fits c =
    bad_channel _ _ _ _ c.position_fits.ensures c.if-not-position_fits.false _ c.channel_fits.ensures c.if-not-channel_fits.true

pub start_of-start-requires : goal.start_of-start-requires
start_of-start-requires c =
    (c.requires.cylinders, c.requires.heads, position_on_lem _ _ (sym c.position_fits.ensures ∙ not-false _ c.if-not-position_fits.false-raw))

pub returns : goal.returns
returns c =
    by_orders _ _ _ _ c.position_fits.ensures c.if-not-position_fits.false _ c.channel_fits.ensures c.if-not-channel_fits.false _ c.start_of-start.ensures.0 _ c.orders_fit.ensures
