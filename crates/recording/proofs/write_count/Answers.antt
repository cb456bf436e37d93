-- The flag, the bytes sent and their check are the area as it is laid.
use Prim.Native.Nat.{ℕ}
use native.Mathlib.Omega.{arith}
use lib.ListN.{length-take, length-drop}
use Rattle.recording.proofs.Laws.{count_laid}
use Rattle.recording.proofs.write_count.Goals as goal

pub returns : goal.returns
returns c =
    count_laid _ _ _ _ (λ i. omega (arith, c.type_inv.bytes i)) _ _ _ _ _ (omega (arith, c.ranges.flag))
    (omega (arith, length-take {A = ℕ}, length-drop {A = ℕ})) (omega arith) c.cell_of.ensures c.record_bytes.ensures c.record_check.ensures
