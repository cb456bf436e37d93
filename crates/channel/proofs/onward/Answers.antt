-- The sum modulo 2 to the 24 is what `words::advanced` gives.
use Rattle.channel.specs.Channel.{onward}
use Rattle.channel.proofs.onward.Goals as goal

pub returns : goal.returns
unfolding onward
returns c = rw c.advanced.ensures
