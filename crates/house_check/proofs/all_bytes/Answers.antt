-- `house_check::all_bytes` meets its contract: the fold takes the test of each cell to the answer so far.
use Rattle.std.proofs.Common.{rules, tests, true, ◌∙◌, refl}
use Rattle.std.proofs.lemmas.Iterator.{YieldsList-from_slice}
use Rattle.std.proofs.lemmas.Iterator.Consumers.{fold_from_yields_List}
use Rattle.cells.specs.Cells.{both, is_byte, all_bytes}
use Rattle.cells.proofs.Every.{Every, every_fold}
use Rattle.house_check.proofs.all_bytes.Goals as goal

every_byte : Every is_byte all_bytes
unfolding all_bytes
every_byte = record {
  none = refl;
  more = λ x l. refl;
}

pub returns : goal.returns
returns c =
    fold_from_yields_List _ (λ b x. both b (is_byte x)) true _ c.fold.ensures.ran (YieldsList-from_slice c.args.cells.now (cc)) (λ b x r q k. search (rules, tests))
    ∙ every_fold is_byte all_bytes every_byte c.args.cells.now true
