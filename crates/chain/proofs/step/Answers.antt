-- `chain::step` meets its contract: what the word's tests say decides which call, and each leaves what the model has there.
use Rattle.chain.proofs.Fits.{key_in, channeled}
use native.Mathlib.Omega.{arith}
use Rattle.chain.proofs.Laws.{step_obeys, step_jumps, step_ends, word-reaches}
use Rattle.chain.proofs.step.Goals as goal

pub command-requires : goal.command-requires
command-requires c = (c.requires, word-reaches _ _ _ _ _ c.test.ensures (rw c.in-Ok-Obey.field-0-is at c.in-Ok-Obey.is))

pub stop-requires : goal.stop-requires
stop-requires c =
    let p = c.requires in
    (omega (arith, p.room), key_in _ (channeled _ _ p))

pub returns-in-Ok-Obey : goal.returns-in-Ok-Obey
returns-in-Ok-Obey c = step_obeys _ _ _ _ _ _ c.test.ensures _ _ _ (rw c.in-Ok-Obey.field-0-is at c.in-Ok-Obey.is) c.command.ensures

pub returns-in-Ok-Jump : goal.returns-in-Ok-Jump
returns-in-Ok-Jump c = step_jumps _ _ _ _ _ _ c.test.ensures _ (rw c.in-Ok-Jump.field-0-is at c.in-Ok-Jump.is) c.jump.ensures

pub returns-in-Err : goal.returns-in-Err
returns-in-Err c = step_ends _ _ _ _ _ _ c.test.ensures _ _ c.in-Err.is c.stop.ensures.0 c.stop.ensures.1
