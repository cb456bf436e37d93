-- What is next on the track lies on it.
use native.Mathlib.Omega.{arith}
use Rattle.hunt.proofs.Inside.{next_on}
use Rattle.task.proofs.Laws.{next_place}
use Rattle.task.proofs.to_next.Goals as goal

pub on_next-requires : goal.on_next-requires
on_next-requires c = next_place _ (record { long = omega arith }) _ _ c.next_record.ensures (next_on _ _)
