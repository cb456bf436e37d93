-- By the write. That the ending is no Unit Check says that a new record has room, and that an update goes over byte cells.
use native.Mathlib.Omega.{arith}
use Rattle.writes.proofs.Calls.{lays_update}
use Rattle.writes.proofs.lay.Goals as goal

pub returns-in-Update : goal.returns-in-Update
returns-in-Update c =
    let p = c.requires in
    lays_update c.args.track.now _ _ _ p.0 (record { long = omega arith }) p.1 _ c.in-Update.is _ c.update.ensures
