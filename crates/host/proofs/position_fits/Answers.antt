-- `host::position_fits` meets its contract: it makes the model's tests.
use Rattle.cells.proofs.Tests.{tests}
use Rattle.chain.specs.Step.{position_fits}
use Rattle.host.proofs.position_fits.Goals as goal

pub returns-then-from-g : goal.returns-then-from-g
unfolding position_fits
returns-then-from-g c = rw (← c.from.ensures, ← c.from-cylinder.ensures) (search tests)

pub returns-else-from-g : goal.returns-else-from-g
unfolding position_fits
returns-else-from-g c = rw (← c.from.ensures, ← c.from-cylinder.ensures) (search tests)

pub returns-else-cylinder-g : goal.returns-else-cylinder-g
unfolding position_fits
returns-else-cylinder-g c = rw (← c.from-cylinder.ensures) (search tests)
