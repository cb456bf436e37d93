-- The last arm's three aims are at the next record, unless the command before serves them.
use mathlib.Core.Path.{◌≡◌, refl, ◌∙◌}
use native.Mathlib.Omega.{arith}
use Rattle.hunt.proofs.Inside.{id_on}
use Rattle.held.specs.declared.{Position.Position, Orders.Orders}
use Rattle.table.specs.declared.{Aim.Aim, Rule.Rule}
use Rattle.command.specs.Command.{Marks, to_served, aimed}
use Rattle.task.specs.Inside.{is_served}
use Rattle.task.proofs.Laws.{next_place, selected_place_lem}
use Rattle.task.proofs.aimed.Goals as goal

next-aimed : (r : Rule) (m : Marks) (s : Position) (o : Orders) (a : Aim)
    → (a ≡ Aim.Stays → ⊥) → (a ≡ Aim.HomeAddress → ⊥) → (a ≡ Aim.R0 → ⊥) → (a ≡ Aim.NextId → ⊥) → (a ≡ Aim.Selected → ⊥)
    → to_served r m s o (is_served a o.before) ≡ aimed r m s o a
unfolding aimed to_served is_served
next-aimed r m s o Aim.Next v w x y z = refl
next-aimed r m s o Aim.NextForData v w x y z = refl
next-aimed r m s o Aim.NextForKey v w x y z = refl
next-aimed r m s o Aim.Stays v w x y z = absurd (v refl)
next-aimed r m s o Aim.HomeAddress v w x y z = absurd (w refl)
next-aimed r m s o Aim.R0 v w x y z = absurd (x refl)
next-aimed r m s o Aim.NextId v w x y z = absurd (y refl)
next-aimed r m s o Aim.Selected v w x y z = absurd (z refl)

pub on_next-requires : goal.on_next-requires
on_next-requires c = next_place _ (record { long = omega arith }) _ _ c.next_id.ensures (id_on _ _)

pub on_selected-requires : goal.on_selected-requires
on_selected-requires c = selected_place_lem _ (record { long = omega arith }) _ c.requires

pub returns-in_default : goal.returns-in_default
returns-in_default c = rw (← c.is_served.ensures) c.to_served.ensures ∙ next-aimed _ _ _ _ _ c.in_default.not-Stays c.in_default.not-HomeAddress c.in_default.not-R0 c.in_default.not-NextId c.in_default.not-Selected
