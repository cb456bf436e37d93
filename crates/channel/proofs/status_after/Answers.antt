-- By its calls; no more bytes move than the count says.
use Rattle.channel.proofs.Laws.{moved_within, length_wrong, length_right, status_is}
use Rattle.channel.proofs.status_after.Goals as goal
use Rattle.channel.proofs.status_after.Goals.{then-wrong_length, else-wrong_length}

pub overflow_sub-w : goal.overflow_sub-w
overflow_sub-w c = rw c.bytes_moved.ensures (moved_within _ _)

pub returns : goal.returns
returns c =
    let wrong = c.wrong_length.ensures in
    status_is _ _ _ _ _ _ _ c.status_for.ensures c.unit_status.ensures
    (elim c.if-wrong_length.branch [ then-wrong_length p ↦ length_wrong _ _ _ _ wrong p.if-wrong_length.true p.channel-is | else-wrong_length p ↦ length_right _ _ _ _ wrong p.if-wrong_length.false p.channel-is ])
    c.bytes_moved.ensures
