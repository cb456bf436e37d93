-- Each arm knows the ending, and gives what the model has there.
use Rattle.channel.specs.Channel.{unit_status}
use Rattle.channel.proofs.unit_status.Goals as goal

pub returns-in-Normal : goal.returns-in-Normal
unfolding unit_status
returns-in-Normal c = rw c.in-Normal.is

pub returns-in-Satisfied : goal.returns-in-Satisfied
unfolding unit_status
returns-in-Satisfied c = rw c.in-Satisfied.is

pub returns-in-Exception : goal.returns-in-Exception
unfolding unit_status
returns-in-Exception c = rw c.in-Exception.is

pub returns-in-Check : goal.returns-in-Check
unfolding unit_status
returns-in-Check c = rw c.in-Check.is
