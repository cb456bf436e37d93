-- Each arm knows what the job does, and calls the family that tells it.
use Rattle.command.specs.Command.{act_turn}
use Rattle.writes.proofs.Rows.{writes_by}
use mathlib.Core.Path.{◌∙◌}
use Rattle.reads.proofs.Sight.{told_are}
use Rattle.unit.proofs.Laws.{told_by}
use Rattle.unit.proofs.ask.Goals as goal

pub write-requires : goal.write-requires
write-requires c = writes_by _ _ c.requires.act c.requires.names c.in-Write.is

pub returns-in-Control : goal.returns-in-Control
unfolding act_turn
returns-in-Control c = told_by _ _ _ _ _ c.in-Control.is c.control.ensures

pub returns-in-Search : goal.returns-in-Search
unfolding act_turn
returns-in-Search c = told_by _ _ _ _ _ c.in-Search.is c.search.ensures

pub returns-in-Read : goal.returns-in-Read
unfolding act_turn
returns-in-Read c = told_by _ _ _ _ _ c.in-Read.is (c.read.ensures ∙ told_are _ _ c.requires _ _)

pub returns-in-Write : goal.returns-in-Write
unfolding act_turn
returns-in-Write c = told_by _ _ _ _ _ c.in-Write.is c.write.ensures
