-- The command has its turn, with the area at the word's address lent to it, and the channel ends what was told.
use Rattle.channel.proofs.Turns.{obeys}
use Rattle.channel.proofs.obey.Goals as goal

pub returns : goal.returns
returns c =
    obeys _ _ _ _ _ _ _ _ _ _ c.requires.reaches (rw c.from.ensures at c.turn-d.ensures) c.settle.ensures.0 (rw c.from.ensures at c.settle.ensures.1)
