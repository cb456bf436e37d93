-- `channel::jump` meets its contract, by the sum modulo 2 to the 24.
use Rattle.channel.specs.Channel.{jumped}
use Rattle.channel.proofs.jump.Goals as goal

pub returns : goal.returns
unfolding jumped
returns c = rw c.advanced.ensures
