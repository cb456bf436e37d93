-- `house_check::ended` meets its contract: four bytes by the table leave what the rest leaves, and the cells behind it go on from there.
use mathlib.Core.Path.{refl, ap, ◌∙◌}
use Prim.Native.Nat.{ℕ}
use lib.Dec.{lit<}
use Rattle.cells.specs.Cells.{bytes_of}
use Rattle.house_check.specs.Check.{feed, bits, check}
use Rattle.house_check.specs.Table.{remainders}
use Rattle.house_check.proofs.Table.{table_feed_lem}
use Rattle.house_check.proofs.Folding.{check_low}
use Rattle.house_check.proofs.Cells.{bytes_Bytes}
use borrow.Author.Rules.{rules}
use Rattle.house_check.proofs.ended.Goals as goal

-- the table of the code is the model's
pub by_table-r-requires : goal.by_table-r-requires
unfolding remainders
by_table-r-requires c = refl

pub by_table-requires : goal.by_table-requires
unfolding remainders
by_table-requires c = refl

pub returns : goal.returns
unfolding check
returns c =
    let four = c.last_bytes-last in
    let one = c.by_table-r in
    let cells = c.args.cells.now in
    c.by_table.ensures ∙ table_feed_lem (bytes_of cells) one.result (bytes_Bytes cells) (search rules)
    ∙ ap (λ (n : ℕ). feed n (bits (bytes_of cells)))
    (one.ensures ∙ table_feed_lem (bytes_of four.result) 0 (bytes_Bytes four.result) (lit< tt) ∙ check_low four.result ∙ four.ensures)
