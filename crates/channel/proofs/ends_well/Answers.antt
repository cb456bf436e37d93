-- The first arm knows that it is one of two endings, and the last that it is neither.
use mathlib.Core.Path.{◌≡◌, refl}
use mathlib.Core.Bool.{true, false}
use mathlib.Core.Logic.{◌⊎◌, inl, inr}
use Rattle.rows.specs.declared.{Row.Row}
use Rattle.turn.specs.declared.{Ending.Ending}
use Rattle.turn.specs.declared.Ending.TheVariants.{Normal, Satisfied, Exception, Check}
use Rattle.channel.specs.Channel.{ends_well}
use Rattle.channel.proofs.ends_well.Goals as goal

these : (x : Ending) → (x ≡ Normal) ⊎ (x ≡ Satisfied) → true ≡ ends_well x
unfolding ends_well
these x (inl e) = rw e refl
these x (inr e) = rw e refl

others : (x : Ending) → (x ≡ Normal → ⊥) → (x ≡ Satisfied → ⊥) → false ≡ ends_well x
unfolding ends_well
others Normal n k = absurd (n refl)
others Satisfied n k = absurd (k refl)
others Exception n k = refl
others (Check r) n k = refl

pub returns-in-Normal : goal.returns-in-Normal
returns-in-Normal c = these _ c.in-Normal.is

pub returns-in_default : goal.returns-in_default
returns-in_default c = others _ c.in_default.not-Normal c.in_default.not-Satisfied
