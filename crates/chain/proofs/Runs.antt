-- Laws of runs: one word more, none, and that running a words and then b is running a + b.
use Prim.Native.Nat.{ℕ, zero, suc, ◌+◌, ◌-◌, ◌<◌, ◌≤◌}
use mathlib.Core.Path.{◌≡◌, refl, sym, ap, ◌∙◌}
use mathlib.Core.Bool.{Bool, true, false}
use native.Mathlib.Nat.{zero-add, suc-add}
use native.Mathlib.Omega.{arith}
use Rattle.cells.specs.Cells.{pick}
use Rattle.pack.specs.declared.{Shape.Shape}
use Rattle.cells.proofs.Tests.{pick_all}
use Rattle.channel.specs.Channel.{World}
use Rattle.chain.specs.Step.{step, run, Legal}
use Rattle.chain.proofs.Legal.{Sizes, step_legal, step_sizes}

pub run_on : (g : Shape) (n : ℕ) (w : World) → w.held.channel.going ≡ true → run g (suc n) w ≡ run g n (step g w)
unfolding run
run_on g n w e = ap (λ (t : Bool). pick t (run g n (step g w)) w) e

pub run_more : (g : Shape) (n : ℕ) (w : World) → 0 < n → w.held.channel.going ≡ true → run g n w ≡ run g (n - 1) (step g w)
run_more g zero w h e = absurd (omega arith)
run_more g (suc n) w h e =
    let p : n ≡ suc n - 1 = omega arith in
    run_on g n w e ∙ ap (λ (k : ℕ). run g k (step g w)) p

pub run_idle : (g : Shape) (n : ℕ) (w : World) → w.held.channel.going ≡ false → run g n w ≡ w
unfolding run
run_idle g zero w e = refl
run_idle g (suc n) w e = ap (λ (t : Bool). pick t (run g n (step g w)) w) e

pub run_none : (g : Shape) (n : ℕ) (w : World) → n ≤ 0 → run g n w ≡ w
unfolding run
run_none g zero w h = refl
run_none g (suc n) w h = absurd (omega arith)

-- an allowance cut into two parts
pub run_split : (g : Shape) (a b : ℕ) (w : World) → run g (a + b) w ≡ run g b (run g a w)
unfolding run
run_split g zero b w = ap (λ (n : ℕ). run g n w) (zero-add b)
run_split g (suc a) b w = ap (λ (n : ℕ). run g n w) (suc-add a b) ∙ go w.held.channel.going refl (run_split g a b (step g w))
  where
    go : (t : Bool) → w.held.channel.going ≡ t → run g (a + b) (step g w) ≡ run g b (run g a (step g w)) → run g (suc (a + b)) w ≡ run g b (run g (suc a) w)
    go true e ih = run_on g (a + b) w e ∙ ih ∙ ap (run g b) (sym (run_on g a w e))
    go false e ih = run_idle g (suc (a + b)) w e ∙ sym (ap (run g b) (run_idle g (suc a) w e) ∙ run_idle g b w e)

-- a run leaves a legal world legal, of the same sizes
run_keeps : (g : Shape) (n : ℕ) (w : World) → Legal g w → Legal g (run g n w) × Sizes w (run g n w)
unfolding run
run_keeps g zero w L = (L, record { storage = refl; cells = refl })
run_keeps g (suc n) w L =
    let next = run_keeps g n (step g w) (step_legal g w L) in
    let s = step_sizes g w L in
    pick_all (λ (v : World). Legal g v × Sizes w v) w.held.channel.going
    (next.0, record { storage = next.1.storage ∙ s.storage; cells = next.1.cells ∙ s.cells })
    (L, record { storage = refl; cells = refl })

pub run_legal : (g : Shape) (n : ℕ) (w : World) → Legal g w → Legal g (run g n w)
run_legal g n w L = (run_keeps g n w L).0

pub run_sizes : (g : Shape) (n : ℕ) (w : World) → Legal g w → Sizes w (run g n w)
run_sizes g n w L = (run_keeps g n w L).1
