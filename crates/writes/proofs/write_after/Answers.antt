-- No room ends it; else it ends after the new record's marker, and where there is room that lies on the track.
use mathlib.Core.List.{[]}
use native.Mathlib.Omega.{arith}
use Rattle.writes.proofs.Report.{new_fails, new_ends, record_begins, record_told}
use Rattle.writes.proofs.write_after.Goals as goal

pub returns-then-not-has_room : goal.returns-then-not-has_room
returns-then-not-has_room c =
    λ t. record_told t _ _ _ _ c.new_counts-n.ensures _ _ _ c.cells_needed.ensures (new_fails t _ _ _ _ _ _ _ _ _ c.has_room.ensures c.if-not-has_room.true (c.fails.ensures _ _))

pub overflow_cast-p : goal.overflow_cast-p
overflow_cast-p c =
    let begins = record_begins [] c.args.j _ _ _ c.new_counts-n.ensures _ _ _ c.cells_needed.ensures c.has_room.ensures c.if-not-has_room.false in
    record { fits = omega (arith, begins) }

pub overflow_add-task : goal.overflow_add-task
overflow_add-task c =
    let begins = record_begins [] c.args.j _ _ _ c.new_counts-n.ensures _ _ _ c.cells_needed.ensures c.has_room.ensures c.if-not-has_room.false in
    record { fits = omega (arith, begins) }

pub returns : goal.returns
returns c =
    λ t. record_told t _ _ _ _ c.new_counts-n.ensures _ _ _ c.cells_needed.ensures (new_ends t _ _ _ _ _ _ _ _ _ c.has_room.ensures _ c.if-not-has_room.false c.record_takes.ensures c.ended_at.ensures)
