-- `house_check::byte_in` meets its contract. The invariant: the register, with the zeros that are left, comes to what the byte leaves.
use mathlib.Core.Path.{◌≡◌, ap, ◌∙◌}
use mathlib.Core.List.{[]}
use Prim.Native.Nat.{ℕ, suc, ◌+◌, ◌-◌, ◌%◌}
use native.Mathlib.Omega.{arith}
use lib.ListN.{replicate}
use Rattle.house_check.specs.Check.{feed}
use Rattle.house_check.proofs.Cells.{low_bits}
use Rattle.house_check.proofs.Linear.{byte_zeros}
use Rattle.house_check.proofs.byte_in.Goals as goal

pub loop-init : goal.loop-init
loop-init c =
    let r : ℕ = c.args.r in
    let b : ℕ = c.args.cell in
    byte_zeros r (b % 256) (omega arith) (omega arith) ∙ ap (feed r) (low_bits b [])

pub loop-preserved : goal.loop-preserved
unfolding feed
loop-preserved c =
    let k : ℕ = c.loop.counter in
    let e : suc (8 - (k + 1)) ≡ 8 - k = omega arith in
    ap (λ (y : ℕ). feed y (replicate (8 - (k + 1)) 0)) c.shift-x.ensures
    ∙ ap (λ (n : ℕ). feed c.loop.x (replicate n 0)) e ∙ c.loop.invariant

pub returns : goal.returns
unfolding feed
returns c =
    let e : 0 ≡ 8 - c.loop.counter = omega arith in
    ap (λ (n : ℕ). feed c.loop.x (replicate n 0)) e ∙ c.loop.invariant
