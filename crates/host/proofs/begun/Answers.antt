-- `host::begun` meets its contract: the orders are the fresh box's.
use Rattle.host.specs.Host.{beginning}
use Rattle.host.proofs.begun.Goals as goal

pub returns : goal.returns
unfolding beginning
returns c = rw c.fresh.ensures
