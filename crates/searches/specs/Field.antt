-- Where the field of a search lies on its track, so that the code can compare it there: so many bytes from a cell on.
use Rattle.std.specs.Prelude.{ℕ, ◌+◌, ◌-◌}
use Rattle.cells.specs.Cells.{pick}
use Rattle.areas.specs.declared.{Counts.Counts}
use Rattle.areas.specs.Areas.{home_bytes, count_cells}
use Rattle.command.specs.Command.{flag_bytes, id_bytes}
use Rattle.table.specs.declared.{Names.Names}

-- behind the flag of the home address; the key behind the count area at c; the ID behind the flag of that
unfoldable pub field_first : Names → ℕ → ℕ
field_first Names.Nothing c = 0
field_first Names.HomeAddress c = flag_bytes
field_first (Names.Count key body) c = c + pick key count_cells flag_bytes

unfoldable pub field_length : Names → Counts → ℕ
field_length Names.Nothing n = 0
field_length Names.HomeAddress n = home_bytes - flag_bytes
field_length (Names.Count key body) n = pick key n.kl id_bytes
