-- `box_export::poplar_go` meets its contract: what is heard, put back in bytes; or bytes that encode no state, refused in 4's place.
use Rattle.box_export.proofs.Laws.{go_told, go_wrong}
use Rattle.box_export.proofs.poplar_go.Goals as goal

pub returns-in-Some : goal.returns-in-Some
returns-in-Some c = go_told _ _ _ _ _ c.keep.ensures _ c.in-Some.is _ _ _ _ _ _ _ c.go.ensures c.tell.ensures.0 c.tell.ensures.1

pub returns-in-None : goal.returns-in-None
returns-in-None c = go_wrong _ _ _ _ _ c.keep.ensures c.in-None.is _ c.refuse.ensures _
