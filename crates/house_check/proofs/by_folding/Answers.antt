-- `house_check::by_folding` meets its contract. The invariant: the check of the rest is the register after the fours so far.
use mathlib.Core.Path.{◌≡◌, refl, ap, ap₂, ◌∙◌}
use mathlib.Core.List.{List}
use Prim.Native.Nat.{ℕ, ◌/◌}
use lib.ListN.{length}
use lib.Seq.{take_all}
use Rattle.std.specs.List.{fold}
use Rattle.cells.specs.Cells.{bytes_of}
use Rattle.house_check.specs.Check.{bit_step, feed, byte_bits, bits, check}
use Rattle.house_check.specs.declared.{Rest.Rest}
use Rattle.house_check.specs.Fold.{cells_in, rest}
use borrow.Author.Rules.{rules}
use Rattle.house_check.proofs.Words.{by_fours}
use Rattle.house_check.proofs.by_folding.Goals as goal

-- the check of 16 zeros
from_zeros : (s : Rest) → s.a ≡ 0 → s.b ≡ 0 → s.c ≡ 0 → s.d ≡ 0 → check (rest s) ≡ 0
unfolding check rest cells_in bits byte_bits feed bit_step
from_zeros s a b c d = rw (a, b, c, d) refl

pub loop-four-init : goal.loop-four-init
loop-four-init c = from_zeros _ (search rules) (search rules) (search rules) (search rules)

pub returns : goal.returns
unfolding check
returns c =
    let l = c.loop-four in
    let w = c.as_chunks in
    let cells = c.args.cells.now in
    c.ended.ensures
    ∙ ap₂ (λ (r : ℕ) (v : List ℕ). feed r (bits (bytes_of v)))
    (l.invariant ∙ ap (fold (λ r c. feed r (bits c)) 0) (take_all l.four-index _ c.loop-four-test.false ∙ w.ensures.front))
    w.ensures.back
    ∙ by_fours (length cells / 4) cells 0
