-- `house_check::word` meets its contract: each cell has its own 16 bits of the word.
use Rattle.house_check.proofs.Words.{word_cells}
use Rattle.house_check.proofs.word.Goals as goal

pub returns : goal.returns
returns c = rw (c.from.ensures, c.from-2.ensures, c.from-3.ensures, c.from-4.ensures) (word_cells c.args.cells.now c.told-cells c.fits-cells)
