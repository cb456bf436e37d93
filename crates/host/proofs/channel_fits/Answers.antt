-- `host::channel_fits` meets its contract: it makes the model's tests.
use Rattle.cells.proofs.Tests.{tests}
use Rattle.chain.specs.Step.{channel_fits}
use Rattle.host.proofs.channel_fits.Goals as goal

pub returns-then-c-lt-KEYS : goal.returns-then-c-lt-KEYS
unfolding channel_fits
returns-then-c-lt-KEYS c = search tests

pub returns-else-c-lt-KEYS : goal.returns-else-c-lt-KEYS
unfolding channel_fits
returns-else-c-lt-KEYS c = search tests
