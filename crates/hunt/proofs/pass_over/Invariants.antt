-- `hunt::pass_over` meets its contract: only cells without a marker are passed, and they make no difference to the hunt.
-- The invariant: the hunt from the cell in hand is the hunt from the first.
use Prim.Native.Nat.{◌-◌, ◌≤◌, max}
use mathlib.Core.Path.{◌≡◌}
use mathlib.Core.Bool.{true}
use lib.ListN.{take, drop}
use Rattle.cells.specs.Cells.{track_cells, marks}
use Rattle.hunt.specs.Hunt.{markerless, hunt}
use Rattle.hunt.proofs.pass_over.Given as goal

abbrev pub invariant-loop-i : goal.invariant-loop-i
invariant-loop-i l =
    (l.from ≤ l.i) × (hunt (marks l.track) l.i ≡ hunt (marks l.track) l.from) × (l.i ≤ max l.from track_cells)
    × (markerless (take (l.i - l.from) (drop l.from l.track)) ≡ true)

abbrev pub decreases-loop-i : goal.decreases-loop-i
decreases-loop-i l = track_cells - l.i
