-- The orders are those after a No-op, and the next word is the one told.
use Rattle.turn.specs.Turn.{after, orders_of}
use Rattle.chain.specs.Stroke.{after_no_ops}
use mathlib.Core.Path.{refl}
use Rattle.chain.proofs.after_no_ops.Goals as goal

pub returns : goal.returns
unfolding after_no_ops after orders_of
returns c = refl
