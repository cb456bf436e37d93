-- `house_check::fold` meets its contract: a word may be put into the four words after it.
use Rattle.house_check.specs.Fold.{rest}
use Rattle.house_check.proofs.Folding.{folds}
use borrow.Author.Rules.{rules}
use Rattle.house_check.proofs.fold.Goals as goal

pub returns : goal.returns
unfolding rest
returns c =
    let x = c.args in
    folds x.s.a x.s.b x.s.c x.s.d x.w (search rules)
