-- `host::sizes_fit` meets its contract: 2, then 3.
use Rattle.std.proofs.Common.{rules}
use Rattle.host.specs.Host.{guard_sizes}
use Rattle.host.proofs.sizes_fit.Goals as goal

pub returns-then-not-storage_fits : goal.returns-then-not-storage_fits
unfolding guard_sizes
returns-then-not-storage_fits c = search rules

pub returns-then-not-pack_fits : goal.returns-then-not-pack_fits
unfolding guard_sizes
returns-then-not-pack_fits c = search rules

pub returns : goal.returns
unfolding guard_sizes
returns c = search rules
