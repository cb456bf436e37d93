-- `find` over both gives the first cell and byte that differ, or none; what that tells is the library's order.
use Rattle.std.proofs.Common.{rules, tests, ap, ◌∙◌}
use Rattle.std.proofs.lemmas.Iterator.{YieldsList-from_slice, YieldsList-from_zip}
use Rattle.std.proofs.lemmas.Iterator.Search.{find_from_yields_List}
use Rattle.compare.proofs.Laws.{differ, told, told_first, told_by}
use Rattle.compare.proofs.by_first.Goals as goal

pub returns : goal.returns
returns c =
    let f = c.args.on_track.now in
    let v = c.args.sent.now in
    told_by _ c.find-different.result _ f v c.map_or.ensures (λ i. i ∙ c.cmp-by_length.ensures) (λ x h. search rules)
    ∙ ap (told f v)
    (find_from_yields_List differ c.find-different.new.self _ _ c.find-different.ensures.ran
    (YieldsList-from_zip (YieldsList-from_slice f cc) (YieldsList-from_slice v cc)) (λ x b q k. search (rules, tests)))
    ∙ told_first f v
