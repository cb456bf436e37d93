-- Document 01, "What lies on a track"; REFERENCE 2.8: room left is the cells from a new record's first cell to the track's end, less the cells it needs. It
-- is a signed number: below zero is an answer, and means it doesn't fit.
use Rattle.std.specs.Prelude.{ℕ, Bool, ℤ, pos, ◌-ℤ◌}
use Rattle.std.specs.Int.Signed.{le_z}
use Rattle.cells.specs.Cells.{track_cells}

unfoldable pub room_left : ℕ → ℕ → ℤ
room_left first needs = pos track_cells -ℤ pos first -ℤ pos needs

unfoldable pub fits : ℕ → ℕ → Bool
fits first needs = le_z (pos 0) (room_left first needs)
