-- What the functions inside the crate promise one another. No rule that `command:Command` does not say.
use Rattle.std.specs.Prelude.{ℕ, Bool, false, None, Some, Option, Ok, Err, Result}
use Rattle.cells.specs.Cells.{pick}
use Rattle.rows.specs.declared.{Row.Row}
use Rattle.hunt.specs.Hunt.{count_first}
use Rattle.table.specs.declared.{Aim.Aim, Bar.Bar}
use Rattle.table.specs.Table.{rule_of, serves_data, serves_key, bars_seek, bars_write}
use Rattle.hunt.specs.declared.{Spot.Spot}

-- the place of the record selected, 0 if none is
unfoldable pub selected_place : Option Spot → ℕ
selected_place None = 0
selected_place (Some spot) = count_first spot

-- whether the command before serves one with this aim, as `command:Command.aimed` has it; the others ask for nobody
unfoldable pub is_served : Aim → ℕ → Bool
is_served Aim.NextForData before = serves_data (rule_of before).serves
is_served Aim.NextForKey before = serves_key (rule_of before).serves
is_served Aim.Stays before = false
is_served Aim.HomeAddress before = false
is_served Aim.R0 before = false
is_served Aim.NextId before = false
is_served Aim.Next before = false
is_served Aim.Selected before = false

-- no row, or the row of a mask that bars the command
unfoldable pub unbarred : Bar → ℕ → Result (Unit {0}) Row
unbarred Bar.Nothing m = Ok tt
unbarred (Bar.Seeks k) m = pick (bars_seek m k) (Err Row.SeekBarred) (Ok tt)
unbarred (Bar.Writes k) m = pick (bars_write m k) (Err Row.WriteBarred) (Ok tt)
