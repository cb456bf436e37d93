-- Eight stores from 64 on are one overlay of the status word's eight bytes; what is required says that storage reaches so far and that key and address fit.
use Prim.Native.Nat.{◌/◌, ◌%◌}
use mathlib.Core.Path.{◌≡◌}
use native.Mathlib.Omega.{arith}
use lib.ListN.{length-set}
use lib.Seq.{sets-eq}
use Rattle.cells.specs.Cells.{overlay}
use Rattle.words.specs.Words.{status_bytes, stored}
use Rattle.words.proofs.store_status.Goals as goal

pub bounds-storage-65 : goal.bounds-storage-65
bounds-storage-65 c = simp length-set (omega arith)

pub bounds-storage-66 : goal.bounds-storage-66
bounds-storage-66 c = simp length-set (omega arith)

pub bounds-storage-67 : goal.bounds-storage-67
bounds-storage-67 c = simp length-set (omega arith)

pub bounds-storage-68 : goal.bounds-storage-68
bounds-storage-68 c = simp length-set (omega arith)

pub bounds-storage-69 : goal.bounds-storage-69
bounds-storage-69 c = simp length-set (omega arith)

pub bounds-storage-70 : goal.bounds-storage-70
bounds-storage-70 c = simp length-set (omega arith)

pub bounds-storage-71 : goal.bounds-storage-71
bounds-storage-71 c = simp length-set (omega arith)

pub shape_of-storage : goal.shape_of-storage
shape_of-storage c = simp length-set

pub returns : goal.returns
unfolding stored overlay
returns c =
    let top : c.args.x.address / 65536 % 256 ≡ c.args.x.address / 65536 = omega arith in
    let high : c.args.x.left / 256 % 256 ≡ c.args.x.left / 256 = omega arith in
    rw (c.to_be_bytes.ensures, c.to_be_bytes-2.ensures, top, high)
    (sets-eq (status_bytes c.args.x) c.args.storage.now 64 c.requires.reaches)
