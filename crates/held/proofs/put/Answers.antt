-- Where there are 64 bytes, the first 24 and the zeros behind them are all of them; else nothing is stored.
use Prim.Native.Nat.{ℕ}
use mathlib.Core.Path.{◌≡◌, sym, ap, ◌∙◌}
use native.Mathlib.Omega.{arith}
use lib.ListN.{length, replicate}
use borrow.Author.Tests.{eq-eqb}
use Rattle.held.specs.Held.{held_bytes}
use Rattle.held.proofs.Laws.{all_stored}
use Rattle.held.proofs.put.Goals as goal

pub returns : goal.returns
returns c =
    let l : length c.args.held.now ≡ held_bytes = omega arith in
    let e = eq-eqb (length c.args.held.now) held_bytes l in
    let many : length c.split_at_mut-first.result.1.now ≡ 40 = omega arith in
    let zeros = c.fill.ensures.after (λ y s. s) in
    let laid = all_stored c.args.h _ _ (c.copy_from_slice.ensures.after ∙ c.first_bytes.ensures) (zeros ∙ ap (λ (n : ℕ). replicate n 0) many) in
    (sym e, rw e laid)
