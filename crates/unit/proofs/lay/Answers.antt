-- Only a write lays; the others leave the track as it is.
use mathlib.Core.Path.{◌≡◌, refl}
use mathlib.Core.Bool.{false}
use Rattle.table.specs.declared.{Act.Act, Write.Write}
use Rattle.table.specs.Table.{is_write}
use Rattle.command.specs.Command.{act_turn}
use Rattle.writes.proofs.Rows.{writes_by}
use Rattle.unit.proofs.Laws.{none_laid, laid_by, accepts_by}
use Rattle.unit.proofs.lay.Goals as goal

others : (a : Act) → ((w : Write) → a ≡ Act.Write w → ⊥) → is_write a ≡ false
unfolding is_write
others (Act.Control k) n = refl
others (Act.Search h) n = refl
others (Act.Read b) n = refl
others (Act.Write w) n = absurd (n w refl)

pub lay-requires : goal.lay-requires
lay-requires c = (writes_by _ _ c.requires.0.act c.requires.0.names c.in-Write.is, accepts_by _ _ _ _ c.in-Write.is c.requires.1)

pub returns-in-Write : goal.returns-in-Write
unfolding act_turn
returns-in-Write c = λ g. laid_by _ _ g _ _ _ c.in-Write.is c.lay.ensures

pub returns-in_default : goal.returns-in_default
returns-in_default c = λ g. none_laid _ g _ _ _ refl (others _ c.in_default.not-Write)
