-- `host::wrong_held` meets its contract: 2, 3, then 4.
use Rattle.host.proofs.Laws.{wrong_refused, wrong_passes}
use Rattle.host.proofs.wrong_held.Goals as goal

pub returns-in-Err : goal.returns-in-Err
returns-in-Err c = wrong_refused _ _ _ _ c.sizes_fit.ensures _ c.in-Err.is

pub returns-in-Ok : goal.returns-in-Ok
returns-in-Ok c = wrong_passes _ _ _ _ c.sizes_fit.ensures c.in-Ok.is
