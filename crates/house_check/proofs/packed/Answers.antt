-- `house_check::packed` meets its contract: of each cell the low byte is kept, and has its own eight bits of the number.
use Rattle.house_check.proofs.Words.{packed_bytes}
use Rattle.house_check.proofs.packed.Goals as goal

pub returns : goal.returns
returns c = rw (c.from_be_bytes.ensures, c.to_le_bytes.ensures, c.to_le_bytes-2.ensures) (packed_bytes c.args.v c.args.w)
