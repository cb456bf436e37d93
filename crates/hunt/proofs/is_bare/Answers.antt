-- `hunt::is_bare` meets its contract: the fold takes the test of each cell to the answer so far.
use Rattle.std.proofs.Common.{rules, tests, ℕ, Bool, true, ◌∙◌, refl}
use Rattle.std.proofs.lemmas.Iterator.{YieldsList-from_slice}
use Rattle.std.proofs.lemmas.Iterator.Consumers.{fold_from_yields_List}
use mathlib.Core.Bool.{not}
use lib.Dec.{eqb}
use Rattle.cells.specs.Cells.{both, marker}
use Rattle.cells.proofs.Every.{Every, every_fold}
use Rattle.hunt.specs.Hunt.{markerless}
use Rattle.hunt.proofs.is_bare.Goals as goal

abbrev other : ℕ → Bool
other x = not (eqb x marker)

every_other : Every other markerless
unfolding markerless
every_other = record {
  none = refl;
  more = λ x l. refl;
}

pub returns : goal.returns
returns c =
    fold_from_yields_List _ (λ b x. both b (other x)) true _ c.fold.ensures.ran (YieldsList-from_slice c.args.cells.now (cc)) (λ b x r q k. search (rules, tests))
    ∙ every_fold other markerless every_other c.args.cells.now true
