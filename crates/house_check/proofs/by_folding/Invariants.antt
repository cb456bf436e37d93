-- `house_check::by_folding` meets its contract. The invariant: the check of the rest is the register after the fours so far.
use mathlib.Core.Path.{◌≡◌}
use lib.ListN.{take}
use Rattle.std.specs.List.{fold}
use Rattle.house_check.specs.Check.{feed, bits, check}
use Rattle.house_check.specs.Fold.{rest}
use Rattle.house_check.proofs.by_folding.Given as goal

abbrev pub invariant-loop-four : goal.invariant-loop-four
invariant-loop-four l = check (rest l.s) ≡ fold (λ r c. feed r (bits c)) 0 (take l.four-index l.fours)
