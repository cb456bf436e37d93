-- Demand 3. By the word: from worlds that are alike a word that reads not the harmed area leaves worlds that are alike, and the first that reads it
-- ends in Data Check (`Stepped`). By the allowance: one word after another. By the call: a host is refused alike, since a refusal sees of the
-- tracks only the markers and the sizes; a start runs nothing. By the calls: one after another.
use Prim.Native.Nat.{ℕ, zero, suc, ◌+◌, ◌-◌}
use mathlib.Core.Path.{◌≡◌, refl, sym, ap, ◌∙◌, subst}
use mathlib.Core.Bool.{Bool, true, false, not, false≢true}
use mathlib.Core.List.{List, [], ◌∷◌}
use native.Mathlib.Omega.{arith}
use borrow.Author.Tests.{not-true}
use Rattle.cells.specs.Cells.{pick, both}
use Rattle.cells.proofs.Tests.{first_of, second_of}
use Rattle.words.specs.Words.{along, tested, begun_by}
use Rattle.areas.specs.declared.{Area.Area}
use Rattle.pack.specs.declared.{Shape.Shape}
use Rattle.pack.specs.Pack.{track_no, start_of}
use Rattle.held.specs.declared.{Held.Held}
use Rattle.held.specs.Held.{fresh, fresh_channel, rested}
use Rattle.channel.specs.Channel.{World, world}
use Rattle.chain.specs.Step.{under, track_under, step, run, held_fits, Legal}
use Rattle.chain.proofs.Legal.{step_legal}
use Rattle.chain.proofs.Runs.{run_on, run_idle, run_split, run_legal}
use Rattle.host.specs.declared.{Answer.Answer}
use Rattle.host.specs.declared.Answer.TheVariants.{ChainEnded, AllowanceUsed, BadStart, NoChain, ChainGoing}
use Rattle.host.specs.Host.{Hears, hears, guard_of, guards, refuses_start, first_word, begins, starts, ran, goes, if_passes, no_refusal}
use Rattle.host.proofs.Laws.{passes_legal}
use Rattle.claim_box.specs.Demand3.{Harmed, next_writes, reads_it, spared, HostCall, start, go, hear, heard, left, spared_call, spared_calls, Alike, Agrees, AllAgree, none, more, DataChecked, FirstReads, EndsThere, Demand3}
use Rattle.claim_box.proofs.Stepped.{marks_same, w_is, v_is, step_kept, step_broken}
use Rattle.std.specs.Prelude.{Ok, Err, Some, None, Result, Option}
use Rattle.words.specs.declared.Directive.TheVariants.{Obey, Jump}
use Rattle.words.specs.declared.{Directive.Directive, Cause.Cause}

module _ (g : Shape) (n s : ℕ) (x : Area) (c c' : List ℕ) (harm : Harmed n s x c c') where
  -- two worlds that are alike have one held state and storage, and these cells
  alike : (h : Held) (st : List ℕ) → Alike c c' (world h st c) (world h st c')
  alike h st = record { held = refl; storage = refl; mine = refl; theirs = refl }

  of_alike : (P : World → World → Type 0) → ((h : Held) (st : List ℕ) → P (world h st c) (world h st c')) → (w v : World) → Alike c c' w v → P w v
  of_alike P f w v a = rw (w_is n s x c c' harm g w v a, v_is n s x c c' harm g w v a) (f w.held w.storage)

  -- ---- an allowance

  runs_alike : (k : ℕ) (w v : World) → Alike c c' w v → Legal g w → spared g n x k w ≡ true → Alike c c' (run g k w) (run g k v)
  unfolding run spared
  runs_alike zero w v a L e = a
  runs_alike (suc k) w v a L e =
      subst (λ (h : Held). Alike c c' (run g (suc k) w) (pick h.channel.going (run g k (step g v)) v)) (sym a.held)
      (by w.held.channel.going refl e (λ p q r. runs_alike k (step g w) (step g v) p q r))
    where
      by : (b : Bool) → w.held.channel.going ≡ b → pick b (both (not (next_writes w)) (both (not (reads_it g n x w)) (spared g n x k (step g w)))) true ≡ true
          → (Alike c c' (step g w) (step g v) → Legal g (step g w) → spared g n x k (step g w) ≡ true → Alike c c' (run g k (step g w)) (run g k (step g v)))
          → Alike c c' (pick b (run g k (step g w)) w) (pick b (run g k (step g v)) v)
      by false p q f = a
      by true p q f =
          let r = second_of (not (next_writes w)) _ q in
          let nowrite = not-true (next_writes w) (first_of (not (next_writes w)) _ q) in
          let unread = not-true (reads_it g n x w) (first_of (not (reads_it g n x w)) _ r) in
          f (step_kept n s x c c' harm g w v a L nowrite unread) (step_legal g w L) (second_of (not (reads_it g n x w)) _ r)

  -- ---- a call

  told : (a : Answer) (w v : World) → Alike c c' w v → Agrees c c' (hears a w) (hears a v)
  told a w v k = record { answer = refl; left = k }

  guarded : (y : Result (Unit {0}) Answer) (w v : World) (p q : Hears) → Alike c c' w v → (y ≡ no_refusal → Agrees c c' p q) → Agrees c c' (guards y w p) (guards y v q)
  unfolding guards
  guarded (Ok tt) w v p q k f = f refl
  guarded (Err a) w v p q k f = told a w v k

  ran-agrees : (w v : World) → Alike c c' w v → Agrees c c' (ran w) (ran v)
  unfolding ran
  ran-agrees w v k = record { answer = ap (λ (h : Held). pick h.channel.going AllowanceUsed ChainEnded) k.held; left = k }

  module _ (h : Held) (st : List ℕ) where
    abbrev w : World
    w = world h st c

    abbrev v : World
    v = world h st c'

    -- the refusals see the same
    guard_same : guard_of g v ≡ guard_of g w
    unfolding guard_of held_fits track_under under start_of
    guard_same = rw (harm.long, ← marks_same n s x c c' harm (track_no g h.position.cylinder h.position.head))

    -- a start
    first_agrees : (key next : ℕ) (y : Result Directive Cause) → Agrees c c' (first_word w key next y) (first_word v key next y)
    unfolding first_word refuses_start
    first_agrees key next (Ok (Obey d)) = told AllowanceUsed _ _ (alike _ _)
    first_agrees key next (Ok (Jump a)) = told BadStart _ _ (alike _ _)
    first_agrees key next (Err cause) = told BadStart _ _ (alike _ _)

    begins_agree : (b : Option (ℕ × ℕ)) → Agrees c c' (begins w b) (begins v b)
    unfolding begins refuses_start
    begins_agree (Some (key, first)) = first_agrees key (along first 0) (tested st (along first 0) false)
    begins_agree None = told BadStart _ _ (alike _ _)

    started : (b : Bool) → Agrees c c' (pick b (hears ChainGoing w) (begins w (begun_by st))) (pick b (hears ChainGoing v) (begins v (begun_by st)))
    started true = told ChainGoing _ _ (alike _ _)
    started false = begins_agree (begun_by st)

    -- a go
    gone : (k : ℕ) (b : Bool) → Alike c c' (run g k w) (run g k v) → Agrees c c' (pick b (ran (run g k w)) (hears NoChain w)) (pick b (ran (run g k v)) (hears NoChain v))
    gone k true r = ran-agrees _ _ r
    gone k false r = told NoChain _ _ (alike _ _)

    hear-agrees : (k : HostCall) → spared_call g n x k w ≡ true → Agrees c c' (hear g k w) (hear g k v)
    unfolding hear spared_call if_passes starts goes
    hear-agrees start e = rw guard_same (guarded (guard_of g w) _ _ _ _ (alike h st) (λ p. started h.channel.going))
    hear-agrees (go k) e =
        rw guard_same (guarded (guard_of g w) _ _ _ _ (alike h st)
        (λ p. gone k h.channel.going (runs_alike k w v (alike h st) (passes_legal g w p) (rw p at e))))

  -- ---- the calls

  heard_alike : (k : HostCall) (w v : World) → Alike c c' w v → spared_call g n x k w ≡ true → Agrees c c' (hear g k w) (hear g k v)
  heard_alike k = of_alike (λ (w v : World). spared_call g n x k w ≡ true → Agrees c c' (hear g k w) (hear g k v)) (λ h st. hear-agrees h st k)

  calls_agree : (calls : List HostCall) (w v : World) → Alike c c' w v → spared_calls g n x calls w ≡ true → AllAgree c c' (heard g calls w) (heard g calls v)
  unfolding heard spared_calls
  calls_agree [] w v a e = none
  calls_agree (k ∷ ks) w v a e =
      let r = heard_alike k w v a (first_of (spared_call g n x k w) _ e) in
      more r (calls_agree ks _ _ r.left (second_of (spared_call g n x k w) _ e))

  calls_left : (calls : List HostCall) (w v : World) → Alike c c' w v → spared_calls g n x calls w ≡ true → Alike c c' (left g calls w) (left g calls v)
  unfolding left spared_calls
  calls_left [] w v a e = a
  calls_left (k ∷ ks) w v a e =
      calls_left ks _ _ (heard_alike k w v a (first_of (spared_call g n x k w) _ e)).left (second_of (spared_call g n x k w) _ e)

  -- ---- the word that reads the area

  checked_ends : (w v : World) → DataChecked x w v → v.held.channel.going ≡ false
  unfolding rested fresh fresh_channel
  checked_ends w v k = ap (λ (h : Held). h.channel.going) k.held

  module _ (allowance k : ℕ) (h : Held) (st : List ℕ) (f : FirstReads g n x allowance k (world h st c)) where
    until : Alike c c' (run g k (w h st)) (run g k (v h st))
    until = runs_alike k _ _ (alike h st) (passes_legal g _ f.passes) f.before

    struck : DataChecked x (run g k (v h st)) (step g (run g k (v h st)))
    struck = step_broken n s x c c' harm g _ _ until (run_legal g k _ (passes_legal g _ f.passes)) f.nowrite f.reads

    -- nothing runs after it
    ends_there : run g allowance (v h st) ≡ step g (run g k (v h st))
    ends_there =
        let e : k + suc (allowance - (k + 1)) ≡ allowance = omega (arith, f.within) in
        ap (λ (m : ℕ). run g m (v h st)) (sym e) ∙ run_split g k (suc (allowance - (k + 1))) (v h st)
        ∙ run_on g (allowance - (k + 1)) _ (ap (λ (y : Held). y.channel.going) until.held ∙ f.going)
        ∙ run_idle g (allowance - (k + 1)) _ (checked_ends _ _ struck)

    -- the chain was going from the first word on
    was_going : (b : Bool) → h.channel.going ≡ b → h.channel.going ≡ true
    was_going true p = p
    was_going false p = absurd (false≢true (sym p ∙ ap (λ (y : World). y.held.channel.going) (sym (run_idle g k (w h st) p)) ∙ f.going))

    hears_end : goes g allowance (v h st) ≡ hears ChainEnded (step g (run g k (v h st)))
    unfolding goes guards ran
    hears_end = rw (ends_there, checked_ends _ _ struck, guard_same h st, f.passes, was_going _ refl)

    word_ends : EndsThere g x allowance k (w h st) (v h st)
    word_ends = record { until = until; answer = ap (λ (y : Hears). y.answer) hears_end; checked = rw hears_end struck }

  -- ---- the demand

  pub demand_3 : Demand3 g n x c c'
  demand_3 = record {
    agrees = λ h st calls e. calls_agree calls _ _ (alike h st) e;
    ends = λ h st calls e allowance k.
        of_alike (λ (w v : World). FirstReads g n x allowance k w → EndsThere g x allowance k w v) (word_ends allowance k) _ _
        (calls_left calls _ _ (alike h st) e);
  }
