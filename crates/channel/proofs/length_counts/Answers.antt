-- Bytes move but for No-op and the like; then a Unit Check decides.
use Rattle.std.proofs.Common.{rules}
use Rattle.channel.specs.Channel.{length_counts}
use Rattle.channel.proofs.length_counts.Goals as goal

pub returns-then-moves_any : goal.returns-then-moves_any
unfolding length_counts
returns-then-moves_any c = search rules

pub returns-else-moves_any : goal.returns-else-moves_any
unfolding length_counts
returns-else-moves_any c = search rules
