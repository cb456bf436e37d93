-- The last arm knows that no search was satisfied.
use mathlib.Core.Path.{◌≡◌, refl}
use Rattle.turn.specs.declared.{Ending.Ending}
use Rattle.turn.specs.declared.Ending.TheVariants.{Normal, Satisfied, Exception, Check}
use Rattle.channel.specs.Channel.{stride}
use Rattle.channel.proofs.stride.Goals as goal

others : (x : Ending) → (x ≡ Satisfied → ⊥) → 8 ≡ stride x
unfolding stride
others Normal k = refl
others Satisfied k = absurd (k refl)
others Exception k = refl
others (Check r) k = refl

pub returns-in-Satisfied : goal.returns-in-Satisfied
unfolding stride
returns-in-Satisfied c = rw c.in-Satisfied.is

pub returns-in_default : goal.returns-in_default
returns-in_default c = others _ c.in_default.not-Satisfied
