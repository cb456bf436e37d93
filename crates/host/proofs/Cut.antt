-- Cutting an allowance into parts changes nothing. Why: a run of a + b words is a run of a and then of b, and a run leaves a legal world
-- legal, so that no refusal comes in between.
use Prim.Native.Nat.{ℕ, ◌+◌}
use mathlib.Core.Path.{◌≡◌, refl, sym, ap, ◌∙◌}
use mathlib.Core.Bool.{Bool, true, false}
use native.Mathlib.Omega.{arith}
use Rattle.cells.specs.Cells.{pick}
use Rattle.pack.specs.declared.{Shape.Shape}
use Rattle.pack.specs.Pack.{pack_fits}
use Rattle.channel.specs.Channel.{World}
use Rattle.chain.specs.Step.{run, storage_fits}
use Rattle.chain.proofs.Runs.{run_split, run_idle, run_legal, run_sizes}
use Rattle.host.specs.declared.Answer.TheVariants.{ChainEnded, AllowanceUsed, NoChain}
use Rattle.host.specs.Host.{Hears, hears, guard_of, guards, ran, goes, no_refusal}
use Rattle.host.proofs.Laws.{passes_legal, legal_passes, passes_sizes}
use Rattle.std.specs.Prelude.{Ok, Err, Result}
use Rattle.host.specs.declared.{Answer.Answer}

module _ (g : Shape) (a b : ℕ) (w : World) where
  -- what a go says, by what the refusals and the held state say
  gone : (n : ℕ) (u : World) (x : Result (Unit {0}) Answer) (t : Bool) → guard_of g u ≡ x → u.held.channel.going ≡ t
      → goes g n u ≡ guards x u (pick t (ran (run g n u)) (hears NoChain u))
  unfolding goes
  gone n u x t e f = λ i. guards (e i) u (pick (f i) (ran (run g n u)) (hears NoChain u))

  -- the refusals pass again after a run
  again : guard_of g w ≡ no_refusal → guard_of g (run g a w) ≡ no_refusal
  again e =
      let L = passes_legal g w e in
      let s = run_sizes g a w L in
      let p = passes_sizes g w e in
      legal_passes g (run g a w) (run_legal g a w L) (ap storage_fits s.storage ∙ p.0) (ap (pack_fits g) s.cells ∙ p.1)

  ended_not_used : ChainEnded ≡ AllowanceUsed → ⊥
  ended_not_used e = let z : ◌≡◌ {A = ℕ} 0 1 = cc in omega arith

  -- both sides, by what the refusals say, whether a chain is going, and whether one is after a words
  used_by : (x : Result (Unit {0}) Answer) (t u : Bool) → guard_of g w ≡ x → w.held.channel.going ≡ t → (run g a w).held.channel.going ≡ u
      → (goes g a w).answer ≡ AllowanceUsed → goes g b (goes g a w).left ≡ goes g (a + b) w
  unfolding guards ran
  used_by (Err r) t u e f k h =
      ap (λ (y : Hears). goes g b y.left) (gone a w _ _ e f) ∙ gone b w _ _ e f ∙ sym (gone (a + b) w _ _ e f)
  used_by (Ok tt) false u e f k h =
      ap (λ (y : Hears). goes g b y.left) (gone a w _ _ e f) ∙ gone b w _ _ e f ∙ sym (gone (a + b) w _ _ e f)
  used_by (Ok tt) true true e f k h =
      ap (λ (y : Hears). goes g b y.left) (gone a w _ _ e f) ∙ gone b (run g a w) _ _ (again e) k
      ∙ ap ran (sym (run_split g a b w)) ∙ sym (gone (a + b) w _ _ e f)
  used_by (Ok tt) true false e f k h =
      absurd (ended_not_used (ap (λ (y : Bool). pick y AllowanceUsed ChainEnded) (sym k) ∙ ap (λ (y : Hears). y.answer) (sym (gone a w _ _ e f)) ∙ h))

  else_by : (x : Result (Unit {0}) Answer) (t u : Bool) → guard_of g w ≡ x → w.held.channel.going ≡ t → (run g a w).held.channel.going ≡ u
      → ((goes g a w).answer ≡ AllowanceUsed → ⊥) → goes g (a + b) w ≡ goes g a w
  unfolding guards ran
  else_by (Err r) t u e f k h = gone (a + b) w _ _ e f ∙ sym (gone a w _ _ e f)
  else_by (Ok tt) false u e f k h = gone (a + b) w _ _ e f ∙ sym (gone a w _ _ e f)
  else_by (Ok tt) true true e f k h =
      absurd (h (ap (λ (y : Hears). y.answer) (gone a w _ _ e f) ∙ ap (λ (y : Bool). pick y AllowanceUsed ChainEnded) k))
  else_by (Ok tt) true false e f k h =
      gone (a + b) w _ _ e f ∙ ap ran (run_split g a b w ∙ run_idle g b (run g a w) k) ∙ sym (gone a w _ _ e f)

  -- if go a answers 1, go a and then go b leave and answer what go (a + b) does
  pub cut_used : (goes g a w).answer ≡ AllowanceUsed → goes g b (goes g a w).left ≡ goes g (a + b) w
  cut_used h = used_by (guard_of g w) w.held.channel.going (run g a w).held.channel.going refl refl refl h

  -- if it answers anything else, go (a + b) leaves and answers the same
  pub cut_else : ((goes g a w).answer ≡ AllowanceUsed → ⊥) → goes g (a + b) w ≡ goes g a w
  cut_else h = else_by (guard_of g w) w.held.channel.going (run g a w).held.channel.going refl refl refl h
