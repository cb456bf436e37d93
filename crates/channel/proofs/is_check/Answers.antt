-- The last arm knows that it is no check.
use mathlib.Core.Path.{◌≡◌, refl}
use mathlib.Core.Bool.{false}
use Rattle.rows.specs.declared.{Row.Row}
use Rattle.turn.specs.declared.{Ending.Ending}
use Rattle.turn.specs.declared.Ending.TheVariants.{Normal, Satisfied, Exception, Check}
use Rattle.turn.specs.Turn.{is_check}
use Rattle.channel.proofs.is_check.Goals as goal

others : (x : Ending) → ((r : Row) → x ≡ Check r → ⊥) → false ≡ is_check x
unfolding is_check
others Normal k = refl
others Satisfied k = refl
others Exception k = refl
others (Check r) k = absurd (k r refl)

pub returns-in-Check : goal.returns-in-Check
unfolding is_check
returns-in-Check c = rw c.in-Check.is

pub returns-in_default : goal.returns-in_default
returns-in_default c = others _ c.in_default.not-Check
