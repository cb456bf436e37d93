-- Count, key and data, part behind part; a part that is not named has no bytes.
use Prim.Native.Nat.{◌+◌}
use mathlib.Core.Path.{ap}
use native.Mathlib.Omega.{arith}
use Rattle.areas.specs.declared.{Area.Area}
use Rattle.reads.proofs.Laws.{lies_by, next_fits, puts_record}
use Rattle.reads.proofs.put_record.Goals as goal

pub cells_at-count-requires : goal.cells_at-count-requires
cells_at-count-requires c = lies_by _ _ (c.args.c + 1) _ _ (omega arith) c.bytes_if.ensures c.requires.0.count

pub cells_at-key-requires : goal.cells_at-key-requires
cells_at-key-requires c =
    lies_by _ _ _ _ _ (ap (λ (a : Area). a.first) c.key_area-keys.ensures) (rw c.from-2.ensures at c.bytes_if-2.ensures) c.requires.0.key

pub cells_at-body-requires : goal.cells_at-body-requires
cells_at-body-requires c = lies_by _ _ _ _ _ (ap (λ (a : Area). a.first) c.data_area-data.ensures) c.bytes_if-3.ensures c.requires.0.body

pub put-keyed-requires : goal.put-keyed-requires
put-keyed-requires c = next_fits _ _ _ _ _ c.requires.1 c.put-counted.ensures

pub put-requires : goal.put-requires
put-requires c = next_fits _ _ _ _ _ (next_fits _ _ _ _ _ c.requires.1 c.put-counted.ensures) c.put-keyed.ensures

pub returns : goal.returns
returns c =
    puts_record _ c.args.p _ _ _ _ _ _ _ c.bytes_if.ensures c.key_area-keys.ensures
    (rw c.from-2.ensures at c.bytes_if-2.ensures) c.data_area-data.ensures c.bytes_if-3.ensures
    _ _ _ (rw c.from.ensures at c.cells_at-count.ensures) c.cells_at-key.ensures c.cells_at-body.ensures
    _ _ _ _ _ _ _ _ c.requires.1 c.put-counted.ensures c.put-keyed.ensures c.put.ensures
