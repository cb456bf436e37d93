-- The bytes are as many as the counts say.
use Rattle.reads.proofs.read.Goals as goal

pub returns : goal.returns
returns c = rw (c.ended.ensures, c.ending_of-end.ensures, c.many_given-n.ensures)
