-- The marker, and the record behind it.
use Rattle.format.proofs.Calls.{marked_laid}
use Rattle.format.proofs.lay_marked.Goals as goal

pub returns : goal.returns
returns c = marked_laid _ _ _ _ _ _ _ c.requires.1 c.put_marker.ensures c.lay_record.ensures
