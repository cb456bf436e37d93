-- The bytes passed are those of the cells passed.
use Rattle.std.proofs.Common.{◌≡◌, ◌++◌, take, drop}
use Rattle.cells.specs.Cells.{bytes_of}
use Rattle.reads.proofs.put_cells.Given as goal

abbrev pub invariant-loop-i : goal.invariant-loop-i
invariant-loop-i l = l.into ≡ take l.i (bytes_of l.cells) ++ drop l.i l.initial.into
