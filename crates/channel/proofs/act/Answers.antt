-- What is told of the bytes says which way they go, and nothing goes the other way; a Unit Check lays nothing.
use Rattle.channel.proofs.Turns.{none_moves, gives_moves, takes_moves, check_laid, job_lay, not_check}
use Rattle.channel.proofs.act.Goals as goal

pub lay-requires : goal.lay-requires
lay-requires c = (c.requires, not_check _ _ _ _ _ _ c.ask-d.ensures c.is_check.ensures c.if-is_check.false)

pub returns-then-is_check : goal.returns-then-is_check
returns-then-is_check c =
    let told = c.ask-d.ensures in
    takes_moves _ _ (job_lay _ _ _ _) told _ _ _ _ c.in-Takes.is
    (check_laid _ _ _ _ (job_lay _ _ _ _) told c.is_check.ensures c.if-is_check.true)

pub returns-in-None : goal.returns-in-None
returns-in-None c = none_moves _ _ (job_lay _ _ _ _) c.ask-d.ensures _ _ c.in-None.is

pub returns-in-Gives : goal.returns-in-Gives
returns-in-Gives c = gives_moves _ _ (job_lay _ _ _ _) c.ask-d.ensures _ _ _ _ c.in-Gives.is (c.give.ensures _ _)

pub returns-else-is_check : goal.returns-else-is_check
returns-else-is_check c = takes_moves _ _ (job_lay _ _ _ _) c.ask-d.ensures _ _ _ _ c.in-Takes.is (c.lay.ensures _)
