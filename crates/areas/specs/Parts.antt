-- The parts of a track by their numbers.
use Rattle.std.specs.Prelude.{ℕ, eqb, Ok, Err, Result}
use Rattle.cells.specs.Cells.{pick}
use Rattle.areas.specs.declared.{Part.Part}
use Rattle.areas.specs.declared.numbers.NoPart.{NoPart}

-- the number of each
abbrev pub part_no : Part → ℕ
part_no Part.Home = 0
part_no Part.Count = 1
part_no Part.Key = 2
part_no Part.Data = 3

-- the part of a number, or the number where it is no part's
unfoldable pub part_named : ℕ → Result Part NoPart
part_named p =
    pick (eqb p 0) (Ok Part.Home) (pick (eqb p 1) (Ok Part.Count) (pick (eqb p 2) (Ok Part.Key) (pick (eqb p 3) (Ok Part.Data) (Err (record { 0 = p })))))
