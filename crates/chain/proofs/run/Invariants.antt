-- `chain::run` meets its contract. The invariant: what is left of the allowance, from the world as it is, comes to the whole from the world
-- as it was; and a legal world stays legal.
use mathlib.Core.Path.{◌≡◌}
use lib.ListN.{length}
use Rattle.channel.specs.Channel.{world}
use Rattle.chain.specs.Step.{run, Legal}
use Rattle.chain.proofs.run.Given as goal

abbrev pub invariant-loop-left : goal.invariant-loop-left
invariant-loop-left l = (run l.g l.allowance (world l.initial.held l.initial.storage l.initial.cells) ≡ run l.g l.left (world l.held l.storage l.cells)) × Legal l.g (world l.held l.storage l.cells)
    × (length l.storage ≡ length l.initial.storage) × (length l.cells ≡ length l.initial.cells)

abbrev pub decreases-loop-left : goal.decreases-loop-left
decreases-loop-left l = l.left
