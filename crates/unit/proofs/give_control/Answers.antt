-- Sense gives its six bytes; every other control command gives none, so that lent bytes stay.
use Prim.Native.Nat.{ℕ}
use mathlib.Core.Path.{◌≡◌, refl}
use mathlib.Core.Bool.{false}
use Rattle.table.specs.declared.{Control.Control, Act.Act}
use Rattle.command.specs.Command.{sight, act_turn}
use Rattle.command.specs.Frame.{gives_bytes}
use Rattle.unit.proofs.Laws.{sense-given, none_given}
use Rattle.unit.proofs.give_control.Goals as goal

silent : (k : Control) → (k ≡ Control.Sense → ⊥) → gives_bytes (Act.Control k) ≡ false
unfolding gives_bytes
silent Control.Unknown h = refl
silent Control.NoOp h = refl
silent Control.Sense h = absurd (h refl)
silent (Control.Seek q) h = refl
silent Control.SetMask h = refl
silent Control.SpaceRecord h = refl

pub returns-in-Sense : goal.returns-in-Sense
unfolding sight
returns-in-Sense c = λ g t v. sense-given _ _ _ g (sight t _ v) _ c.in-Sense.is c.give_sense.ensures

pub returns-in_default : goal.returns-in_default
unfolding act_turn
returns-in_default c = λ g t v. none_given _ _ g (sight t _ v) (Act.Control _) (silent _ c.in_default.not-Sense)
