-- `host::first_word` meets its contract, by what the word's tests say.
use mathlib.Core.Path.{refl, sym, ◌∙◌}
use Rattle.std.proofs.Common.{rules}
use Rattle.host.specs.Host.{started}
use Rattle.host.proofs.Tells.{hears_eq, first_obeyed, first_other, first_bad}
use Rattle.host.proofs.first_word.Goals as goal

pub returns-in_default : goal.returns-in_default
unfolding started
returns-in_default c = λ x. first_other _ _ _ _ _ _ (sym c.test.ensures ∙ c.in_default.is) (search rules) refl

pub returns-in_default-2 : goal.returns-in_default-2
unfolding started
returns-in_default-2 c = λ x. first_bad _ _ _ _ _ _ (sym c.test.ensures ∙ c.in_default.is) refl

pub returns : goal.returns
unfolding started
returns c =
    λ x.
    first_obeyed _ _ _ _ _ _ (sym c.test.ensures ∙ (rw c.in-Ok-Obey.field-0-is at c.in-Ok-Obey.is)) (hears_eq refl c.begun.ensures refl refl)
