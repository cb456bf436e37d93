-- `chain::is_chained_no_op_at` meets its contract: by what the word's tests say.
use mathlib.Core.Path.{◌≡◌, refl}
use Rattle.std.proofs.Common.{rules}
use mathlib.Core.Bool.{false}
use Rattle.std.specs.Prelude.{Ok}
use Rattle.words.specs.declared.{Directive.Directive, Word.Word}
use Rattle.words.specs.declared.Directive.TheVariants.{Obey, Jump}
use Rattle.chain.specs.Stroke.{tested_chained_no_op}
use Rattle.chain.proofs.Strokes.{by_test}
use Rattle.chain.proofs.is_chained_no_op_at.Goals as goal

others : (d : Directive) → ((w : Word) → d ≡ Obey w → ⊥) → false ≡ tested_chained_no_op (Ok d)
unfolding tested_chained_no_op
others (Obey w) n = absurd (n w refl)
others (Jump a) n = refl

pub returns-in_default : goal.returns-in_default
returns-in_default c = by_test _ _ _ _ _ c.test.ensures c.in_default.is (others _ (search rules))

pub returns-in_default-2 : goal.returns-in_default-2
unfolding tested_chained_no_op
returns-in_default-2 c = by_test _ _ _ _ _ c.test.ensures c.in_default.is refl

pub returns : goal.returns
unfolding tested_chained_no_op
returns c = by_test _ _ _ _ _ c.test.ensures (rw c.in-Ok-Obey.field-0-is at c.in-Ok-Obey.is) c.is_chained_no_op.ensures
