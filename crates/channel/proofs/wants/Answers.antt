-- Each arm knows which bytes move, and gives how many.
use Rattle.turn.specs.Turn.{wants}
use Rattle.channel.proofs.wants.Goals as goal

pub returns-in-None : goal.returns-in-None
unfolding wants
returns-in-None c = rw c.in-None.is

pub returns-in-Gives : goal.returns-in-Gives
unfolding wants
returns-in-Gives c = rw c.in-Gives.is

pub returns-in-Takes : goal.returns-in-Takes
unfolding wants
returns-in-Takes c = rw c.in-Takes.is
