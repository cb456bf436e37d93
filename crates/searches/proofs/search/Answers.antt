-- The field lies on the track, since all that the job names was readable; the rest is what its calls say.
use Rattle.std.proofs.Common.{◌∙◌, ◌+◌, ◌-◌, arith}
use Rattle.searches.proofs.Fields.{compared_there}
use Rattle.searches.proofs.Report.{field_ends, search_tells}
use Rattle.searches.proofs.search.Goals as goal

pub overflow_add-first : goal.overflow_add-first
overflow_add-first c = omega (arith, field_ends _ _ c.requires _ _ c.field_length-n.ensures c.field_first-first.ensures)

pub offset_bounds-track-first : goal.offset_bounds-track-first
offset_bounds-track-first c = omega (arith, field_ends _ _ c.requires _ _ c.field_length-n.ensures c.field_first-first.ensures)

pub slice_bounds-compare-end : goal.slice_bounds-compare-end
slice_bounds-compare-end c = omega (arith, field_ends _ _ c.requires _ _ c.field_length-n.ensures c.field_first-first.ensures)

pub returns : goal.returns
returns c =
    search_tells _ _ c.requires _ _ c.field_length-n.ensures c.field_first-first.ensures _ _ _ _ _ _ _
    (c.compare-x.ensures ∙ compared_there _ _ _ c.field_length-n.result (c.field_first-first.result + c.from.result - c.field_first-first.result) (omega arith))
    c.wholly-whole.ensures c.found-found.ensures c.end_by-end.ensures (rw c.from-2.ensures at c.ended.ensures)
