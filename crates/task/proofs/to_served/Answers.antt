-- The record selected lies on the track.
use native.Mathlib.Omega.{arith}
use Rattle.task.proofs.Laws.{selected_on}
use Rattle.task.proofs.to_served.Goals as goal

pub on_record-requires : goal.on_record-requires
on_record-requires c = selected_on _ (record { long = omega arith }) _ _ c.in-Some.is c.requires
