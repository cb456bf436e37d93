-- Each arm is a test of the two bits, and its four values are the table's line.
use Prim.Native.Nat.{◌%◌}
use mathlib.Core.Bool.{not}
use native.Mathlib.Omega.{arith}
use lib.Dec.{eqb}
use Rattle.table.specs.Table.{write_bits, writes_barred, bars_write}
use Rattle.table.proofs.Laws.{tabled}
use Rattle.table.proofs.bars_write.Goals as goal

pub returns-in-HomeOrR0 : goal.returns-in-HomeOrR0
unfolding bars_write writes_barred
returns-in-HomeOrR0 c = rw c.in-HomeOrR0.is (tabled (λ n. not (eqb n 3)) (write_bits c.args.mask) (omega arith))

pub returns-in-CountKeyData : goal.returns-in-CountKeyData
unfolding bars_write writes_barred
returns-in-CountKeyData c = rw c.in-CountKeyData.is (tabled (λ n. not (eqb (n % 3) 0)) (write_bits c.args.mask) (omega arith))

pub returns-in-Update : goal.returns-in-Update
unfolding bars_write writes_barred
returns-in-Update c = rw c.in-Update.is (tabled (λ n. eqb n 1) (write_bits c.args.mask) (omega arith))
