-- `house_check::last_bytes` meets its contract: sixteen bytes are folded into eight, and these into four.
use lib.Bits.{xor_lt}
use Rattle.cells.specs.Cells.{bytes_of}
use Rattle.house_check.specs.Fold.{low_bytes, rest}
use Rattle.house_check.proofs.Folding.{last_four}
use borrow.Author.Rules.{rules}
use Rattle.house_check.proofs.last_bytes.Goals as goal

pub returns : goal.returns
unfolding bytes_of low_bytes rest
returns c =
    let p = c.spread in
    let x = c.packed-2 in
    let y = c.packed in
    let s = c.args.s in
    rw (c.from.ensures, c.from-2.ensures, c.from-3.ensures, c.from-4.ensures, c.to_be_bytes.ensures)
    (last_four s.a s.b s.c s.d x.result y.result p.result c.spread-2.result
    (search rules) (xor_lt 64 y.result p.result (search rules) (search rules)) x.ensures y.ensures p.ensures c.spread-2.ensures)
