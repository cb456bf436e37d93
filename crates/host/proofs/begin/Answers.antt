-- `host::begin` meets its contract, by what the address word says.
use mathlib.Core.Path.{refl, sym, ◌∙◌}
use Rattle.host.specs.Host.{started}
use Rattle.host.proofs.Tells.{begins_first, begins_refused}
use Rattle.host.proofs.begin.Goals as goal

pub returns-in_err-key : goal.returns-in_err-key
unfolding started
returns-in_err-key c = λ x. rw c.from_residual.ensures (begins_refused _ _ _ (sym c.address_word.ensures ∙ c.in_err-key.was) refl)

pub returns : goal.returns
returns c = λ x. begins_first _ _ _ _ _ _ (sym c.address_word.ensures ∙ c.in_ok-key.was) c.advanced.ensures (c.first_word.ensures x)
