-- Each arm knows which command it is and calls what the model's line for it cites.
use Rattle.command.specs.Command.{control_turn, seek_turn, sight}
use Rattle.controls.proofs.control.Goals as goal

pub returns-in-Unknown : goal.returns-in-Unknown
unfolding control_turn
returns-in-Unknown c = rw c.in-Unknown.is (c.fails.ensures _ _)

pub returns-in-Seek : goal.returns-in-Seek
unfolding control_turn seek_turn sight
returns-in-Seek c = rw (c.in-Seek.is, ← c.addressed.ensures) (c.arrives.ensures _ _)

pub returns-in-SetMask : goal.returns-in-SetMask
unfolding control_turn sight
returns-in-SetMask c = rw (c.in-SetMask.is, ← c.byte_at.ensures) (c.set_mask.ensures _ _)
