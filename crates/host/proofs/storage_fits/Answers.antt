-- `host::storage_fits` meets its contract: it makes the model's tests.
use Rattle.cells.proofs.Tests.{tests}
use Rattle.chain.specs.Step.{storage_fits}
use Rattle.host.proofs.storage_fits.Goals as goal

pub returns-then-n-ge-LEAST_STORAGE : goal.returns-then-n-ge-LEAST_STORAGE
unfolding storage_fits
returns-then-n-ge-LEAST_STORAGE c = search tests

pub returns-else-n-ge-LEAST_STORAGE : goal.returns-else-n-ge-LEAST_STORAGE
unfolding storage_fits
returns-else-n-ge-LEAST_STORAGE c = search tests
