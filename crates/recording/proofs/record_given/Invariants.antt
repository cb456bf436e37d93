-- The cells passed record the bytes passed.
use Rattle.std.proofs.Common.{◌≡◌, ◌++◌, take, drop}
use Rattle.cells.specs.Cells.{cells_of}
use Rattle.recording.proofs.record_given.Given as goal

abbrev pub invariant-loop-j : goal.invariant-loop-j
invariant-loop-j l = l.area ≡ take l.j (cells_of l.bytes) ++ drop l.j l.initial.area
