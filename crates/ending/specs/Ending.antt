-- What is reported at a command's end, of a turn without the bytes and cells of it: `command:Command.end_turn_at` and `turn:Turn.check_turn`.
use Rattle.std.specs.Prelude.{Bool}
use Rattle.rows.specs.declared.{Row.Row}
use Rattle.rows.specs.Rows.{sense_of, row_takes}
use Rattle.held.specs.declared.{Position.Position, Orders.Orders}
use Rattle.turn.specs.declared.{Ending.Ending, Transfer.Transfer, Report.Report}
use Rattle.turn.specs.Turn.{with_sense}
use Rattle.command.specs.declared.{Task.Task, Job.Job}
use Rattle.command.specs.Command.{position_after, orders_after}

abbrev pub report : Ending → Transfer → Position → Orders → Report
report e m s o = record { ending = e; transfer = m; position = s; orders = o }

-- a job that ends at the place of a task
unfoldable pub report_at : Job → Task → Ending → Transfer → Bool → Report
report_at j k e m whole = report e m (position_after j k) (orders_after j k whole)

-- Unit Check
unfoldable pub check_report : Position → Orders → Row → Report
check_report s o row = report (Ending.Check row) (Transfer.Takes (row_takes row)) (with_sense s (sense_of row)) o
