-- `house_check::by_bits` meets its contract: each turn of the fold is a byte of the model's check.
use Rattle.std.proofs.Common.{rules, tests, ◌∙◌, []}
use Rattle.std.proofs.lemmas.Iterator.{YieldsList-from_slice}
use Rattle.std.proofs.lemmas.Iterator.Consumers.{fold_from_yields_List}
use Rattle.house_check.specs.Check.{feed, byte_bits, check}
use Rattle.house_check.proofs.Cells.{fed}
use Rattle.house_check.proofs.by_bits.Goals as goal

pub returns : goal.returns
unfolding check
returns c =
    fold_from_yields_List _ (λ r x. feed r (byte_bits x [])) 0 _ c.fold.ensures.ran (YieldsList-from_slice c.args.cells.now (cc)) (λ b x r q k. search (rules, tests))
    ∙ fed c.args.cells.now 0
