-- `hunt::next_marker` meets its contract: the hunt may begin at the cell that the strides end at, and it comes to the first cell from there on that holds a
-- marker.
use Rattle.std.proofs.Common.{rules, tests, arith, sym, ap, refl, ◌∙◌, ◌-◌, eqb, get_or}
use Rattle.std.proofs.lemmas.Iterator.{YieldsList-from_range}
use Rattle.std.proofs.lemmas.Iterator.Adapters.{option_map_id}
use Rattle.std.proofs.lemmas.Iterator.Search.{find_from_yields_List}
use Rattle.cells.specs.Cells.{track_cells, marker, marks}
use Rattle.hunt.specs.Hunt.{hunt}
use Rattle.hunt.proofs.Laws.{hunt_first, hunt_find}
use Rattle.hunt.proofs.next_marker.Goals as goal

pub returns : goal.returns
returns c =
    let t = c.args.track.now in
    let on = c.pass_over-on.result in
    sym (option_map_id c.find.result)
    ∙ find_from_yields_List (λ i. eqb (get_or t i 0) marker) _ _ _ c.find.ensures.ran (YieldsList-from_range on track_cells _ refl refl) (λ x b q k. search (rules, tests))
    ∙ hunt_find t (track_cells - on) on (omega arith) (omega arith) ∙ c.pass_over-on.ensures.on.1 ∙ ap (hunt (marks t)) c.max.ensures ∙ sym (hunt_first t c.args.place (omega arith))
