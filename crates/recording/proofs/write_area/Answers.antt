-- The bytes, then their check, are the area as it is laid.
use Prim.Native.Nat.{ℕ}
use native.Mathlib.Omega.{arith}
use lib.ListN.{length-take, length-drop}
use Rattle.recording.proofs.Laws.{area_laid}
use Rattle.recording.proofs.write_area.Goals as goal

pub returns : goal.returns
returns c =
    area_laid _ _ _ _ (λ i. omega (arith, c.type_inv.bytes i)) _ _ _ _ (omega (arith, length-take {A = ℕ}, length-drop {A = ℕ})) (omega arith)
    c.record_bytes.ensures c.record_check.ensures
