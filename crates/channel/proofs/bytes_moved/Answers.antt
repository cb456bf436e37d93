-- The lesser of the two.
use native.Mathlib.Omega.{arith}
use Rattle.channel.specs.Channel.{bytes_moved}
use Rattle.channel.proofs.bytes_moved.Goals as goal

pub returns : goal.returns
unfolding bytes_moved
returns c = omega arith
