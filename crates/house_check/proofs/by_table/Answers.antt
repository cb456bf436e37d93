-- `house_check::by_table` meets its contract: each turn is one step of the model's, since the table lent is the model's. The invariant: the register
-- is that after the cells so far.
use Rattle.std.proofs.Common.{arith}
use Rattle.std.proofs.lemmas.Grind.{common_steps}
use Rattle.std.proofs.lemmas.List.Sums.{fold_more}
use Rattle.house_check.specs.Table.{table_step}
use Rattle.house_check.proofs.Table.{table_fed}
use Rattle.house_check.proofs.by_table.Goals as goal

pub loop-cell-preserved : goal.loop-cell-preserved
unfolding table_step
loop-cell-preserved c = grind (arith, fold_more, c.requires, c.from.ensures)

pub returns : goal.returns
returns c = grind (arith, common_steps, table_fed c.args.cells.now c.args.start)
