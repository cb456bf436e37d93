-- Of the cells those that are not left out and find room are put: `put_cells` puts a run of them.
use Rattle.std.proofs.Common.{◌+◌, ◌-◌, arith, refl}
use Rattle.reads.proofs.Laws.{run_puts}
use Rattle.reads.proofs.put.Goals as goal

pub returns : goal.returns
returns c =
    let skip = c.min-skip.result in
    let m = c.min-m.result in
    let at = c.args.r.at in
    run_puts _ _ c.args.r _ _ c.min-skip.ensures c.min-m.ensures (skip + m - skip) (at + m - at) _ _ (omega arith) (omega arith)
    c.put_cells.ensures refl refl
