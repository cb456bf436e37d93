-- The library's test of all bytes from there on is the model's.
use Rattle.std.proofs.Common.{rules, sym, ◌∙◌}
use Rattle.std.proofs.lemmas.Iterator.{YieldsList-from_slice}
use Rattle.std.proofs.lemmas.Iterator.Adapters.{YieldsList-from_skip}
use Rattle.std.proofs.lemmas.Iterator.Search.{all_from_yields_List}
use borrow.Author.Tests.{tests}
use lib.Dec.{eqb}
use lib.ListN.{drop}
use Rattle.held.proofs.Laws.{zeros_are}
use Rattle.held.proofs.zeros_from.Goals as goal

pub returns : goal.returns
returns c =
    all_from_yields_List (λ b. eqb b 0) _ _ _ c.all.ensures.ran (YieldsList-from_skip c.args.first (YieldsList-from_slice c.args.bytes.now (cc)) (cc))
    (λ x b q k. search (rules, tests))
    ∙ sym (zeros_are (drop c.args.first c.args.bytes.now))
