-- `house_check::spread` meets its contract: it is the definition, shift by shift.
use mathlib.Core.Path.{refl}
use Rattle.house_check.specs.Fold.{spill, back, spread}
use Rattle.house_check.proofs.spread.Goals as goal

pub returns : goal.returns
unfolding spread back spill
returns c = refl
