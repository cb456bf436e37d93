-- Each arm is a test of the two bits, and its four values are the table's line.
use mathlib.Core.Bool.{not}
use native.Mathlib.Omega.{arith}
use lib.Dec.{leb, eqb}
use Rattle.table.specs.Table.{seek_bits, seeks_barred, bars_seek}
use Rattle.table.proofs.Laws.{tabled}
use Rattle.table.proofs.bars_seek.Goals as goal

pub returns-in-Seek : goal.returns-in-Seek
unfolding bars_seek seeks_barred
returns-in-Seek c = rw c.in-Seek.is (tabled (λ n. not (eqb n 0)) (seek_bits c.args.mask) (omega arith))

pub returns-in-SeekCylinder : goal.returns-in-SeekCylinder
unfolding bars_seek seeks_barred
returns-in-SeekCylinder c = rw c.in-SeekCylinder.is (tabled (λ n. leb 2 n) (seek_bits c.args.mask) (omega arith))

pub returns-in-SeekHead : goal.returns-in-SeekHead
unfolding bars_seek seeks_barred
returns-in-SeekHead c = rw c.in-SeekHead.is (tabled (λ n. eqb n 3) (seek_bits c.args.mask) (omega arith))
