-- Reads give what they have read, Sense its bytes; searches and writes give nothing.
use mathlib.Core.Path.{◌≡◌, refl}
use mathlib.Core.Bool.{false}
use mathlib.Core.Logic.{◌⊎◌, inl, inr}
use Rattle.table.specs.declared.{Act.Act, How.How, Write.Write}
use Rattle.command.specs.Command.{act_turn}
use Rattle.command.specs.Frame.{gives_bytes}
use Rattle.unit.proofs.Laws.{given_by, none_given}
use Rattle.unit.proofs.give.Goals as goal

silent : (a : Act) → ((h : How) × (a ≡ Act.Search h)) ⊎ ((w : Write) × (a ≡ Act.Write w)) → gives_bytes a ≡ false
unfolding gives_bytes
silent a (inl (h, e)) = rw e refl
silent a (inr (w, e)) = rw e refl

pub returns-in-Control : goal.returns-in-Control
unfolding act_turn
returns-in-Control c = λ g v. given_by _ _ _ g _ _ _ c.in-Control.is (c.give_control.ensures g _ v)

pub returns-in-Read : goal.returns-in-Read
unfolding act_turn
returns-in-Read c = λ g v. given_by _ _ _ g _ _ _ c.in-Read.is (c.give.ensures v)

pub returns-in-Search : goal.returns-in-Search
returns-in-Search c = λ g v. none_given _ _ g _ _ (silent _ c.in-Search.is)
