-- `house_check::by_table` meets its contract: each turn is one step of the model's, since the table lent is the model's. The invariant: the register
-- is that after the cells so far.
use mathlib.Core.Path.{◌≡◌}
use Prim.Native.Nat.{◌%◌}
use lib.ListN.{take}
use Rattle.std.specs.List.{fold}
use Rattle.house_check.specs.Table.{table_step}
use Rattle.house_check.proofs.by_table.Given as goal

abbrev pub invariant-loop-cell : goal.invariant-loop-cell
invariant-loop-cell l = l.r ≡ fold (λ r c. table_step r (c % 256)) l.start (take l.cell-index l.cells)
