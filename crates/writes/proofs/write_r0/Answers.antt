-- No room ends it; else it ends at its own place.
use Rattle.writes.proofs.Report.{new_fails, new_ends, r0_told}
use Rattle.writes.proofs.write_r0.Goals as goal

pub returns-then-not-has_room : goal.returns-then-not-has_room
returns-then-not-has_room c =
    λ t. r0_told t _ _ _ _ c.new_counts-n.ensures _ _ c.record_cells.ensures.0 (new_fails t _ _ _ _ _ _ _ _ _ (rw c.from.ensures at c.has_room.ensures) c.if-not-has_room.true (c.fails.ensures _ _))

pub returns : goal.returns
returns c =
    λ t. r0_told t _ _ _ _ c.new_counts-n.ensures _ _ c.record_cells.ensures.0 (new_ends t _ _ _ _ _ _ _ _ _ (rw c.from.ensures at c.has_room.ensures) _ c.if-not-has_room.false c.record_takes.ensures c.ended.ensures)
