-- What was written reads back: at the read's word, and through the call that runs it. Why: a go runs the words before it, then the read, then words that may
-- not change the byte; none, if the chain ended with the read.
use Prim.Native.Nat.{ℕ, suc, ◌+◌, ◌-◌, ◌<◌}
use mathlib.Core.Path.{◌≡◌, refl, sym, ap, ◌∙◌, subst}
use mathlib.Core.Bool.{Bool, true, false, false≢true}
use native.Mathlib.Omega.{arith}
use lib.ListN.{get_or}
use Rattle.cells.specs.Cells.{pick}
use Rattle.words.specs.declared.{Word.Word, Directive.Directive, Cause.Cause}
use Rattle.words.specs.Words.{status_at}
use Rattle.areas.specs.declared.{Area.Area}
use Rattle.pack.specs.declared.{Shape.Shape}
use Rattle.held.specs.declared.{Held.Held}
use Rattle.held.specs.Held.{fresh, fresh_channel, rested}
use Rattle.turn.specs.declared.{Report.Report}
use Rattle.turn.specs.Turn.{report_of}
use Rattle.channel.specs.Channel.{stride, onward, goes_on, held_after, World}
use Rattle.chain.specs.Step.{next, turn_of, settled, obeyed, step_by, step, run, Legal}
use Rattle.chain.proofs.Legal.{step_legal}
use Rattle.chain.proofs.Runs.{run_on, run_idle, run_split, run_legal}
use Rattle.host.specs.declared.{Answer.Answer}
use Rattle.host.specs.declared.Answer.TheVariants.{NoChain}
use Rattle.host.specs.Host.{Hears, hears, guard_of, guards, ran, goes, no_refusal}
use Rattle.host.proofs.Laws.{passes_legal}
use Rattle.claim_box.specs.Confined.{spares_byte}
use Rattle.claim_box.specs.Demand3.{DataChecked}
use Rattle.claim_box.proofs.Runs.{run_confined}
use Rattle.claim_sound.specs.Soundness.{spares_done}
use Rattle.claim_back.specs.Back.{Since, now, words, sent_at, no_data, WrittenReadsBack}
use Rattle.claim_back.proofs.After.{track-kept}
use Rattle.claim_back.proofs.Again.{back}
use Rattle.claim_back.proofs.Lost.{stays, key_lost}
use Rattle.std.specs.Prelude.{Ok, Result}

module _ (g : Shape) (v : World) (n : ℕ) (p : guard_of g v ≡ no_refusal) where
  -- a go that passes leaves what its words leave
  go_runs : (goes g n v).left ≡ run g n v
  unfolding goes guards ran
  go_runs =
      ap (λ (x : Result (Unit {0}) Answer). (guards x v (pick v.held.channel.going (ran (run g n v)) (hears NoChain v))).left) p ∙ by v.held.channel.going refl
    where
      by : (b : Bool) → v.held.channel.going ≡ b → (pick b (ran (run g n v)) (hears NoChain v)).left ≡ run g n v
      by true e = refl
      by false e = sym (run_idle g n v e)

  module _ (j : ℕ) (h : j < n) (going : (run g j v).held.channel.going ≡ true) where
    -- word j + 1, and those after it
    runs_on : run g n v ≡ run g (n - j - 1) (step g (run g j v))
    runs_on =
        let e : n ≡ j + suc (n - j - 1) = omega arith in
        ap (λ (k : ℕ). run g k v) e ∙ run_split g j (suc (n - j - 1)) v ∙ run_on g (n - j - 1) (run g j v) going

    after_legal : Legal g (step g (run g j v))
    after_legal = step_legal g (run g j v) (run_legal g j v (passes_legal g v p))

    since_rest : (m : ℕ) → spares_done g m (n - j - 1) (step g (run g j v)) ≡ true → Since g m (step g (run g j v)) (goes g n v).left
    since_rest m q = subst (Since g m (step g (run g j v))) (sym (go_runs ∙ runs_on)) (words (n - j - 1) now after_legal q)

    stands : (i : ℕ) → spares_byte g i (n - j - 1) (step g (run g j v)) ≡ true
        → get_or (goes g n v).left.storage i 0 ≡ get_or (step g (run g j v)).storage i 0
    stands i q =
        ap (λ (y : World). get_or y.storage i 0) (go_runs ∙ runs_on)
        ∙ (run_confined g (n - j - 1) (step g (run g j v)) after_legal).storage i q

-- where word j + 1 ends the chain, the go leaves what that word left, and the host hears that the chain ended
module _ (g : Shape) (v : World) (n : ℕ) (p : guard_of g v ≡ no_refusal) (j : ℕ) (h : j < n) (going : (run g j v).held.channel.going ≡ true)
    (over : (step g (run g j v)).held.channel.going ≡ false) where
  -- a chain of which a word ran was going
  was_going : (b : Bool) → v.held.channel.going ≡ b → v.held.channel.going ≡ true
  was_going true q = q
  was_going false q = absurd (false≢true (sym q ∙ ap (λ (y : World). y.held.channel.going) (sym (run_idle g j v q)) ∙ going))

  ends_there : goes g n v ≡ hears Answer.ChainEnded (step g (run g j v))
  unfolding goes guards ran
  ends_there = rw (runs_on g v n p j h going ∙ run_idle g (n - j - 1) (step g (run g j v)) over, over, p, was_going _ refl)

  heard_there : (P : World → Type 0) → P (step g (run g j v)) → ((goes g n v).answer ≡ Answer.ChainEnded) × P (goes g n v).left
  heard_there P x = (ap (λ (y : Hears). y.answer) ends_there, subst (λ (y : Hears). P y.left) (sym ends_there) x)

-- a word after which the chain does not go on ends it, and so does Data Check
module _ (g : Shape) (u : World) where
  word_over : (e : Word) → next u ≡ Ok (Directive.Obey e) → goes_on e (report_of (turn_of g u e)) ≡ false → (step g u).held.channel.going ≡ false
  unfolding step step_by obeyed settled held_after rested fresh fresh_channel
  word_over e w q =
      let x : Report = report_of (turn_of g u e) in
      ap (λ (y : Result Directive Cause). (step_by g u y).held.channel.going) w
      ∙ ap (λ (b : Bool). (pick b (record { position = x.position; orders = x.orders; channel = onward u.held.channel (stride x.ending) }) (rested x.position)).channel.going) q

  check-over : (x : Area) → DataChecked x u (step g u) → (step g u).held.channel.going ≡ false
  unfolding rested fresh fresh_channel
  check-over x D = ap (λ (y : Held). y.channel.going) D.held

pub written_reads-back : (g : Shape) → WrittenReadsBack g
written_reads-back g = record {
  kept = track-kept g;
  rest = λ m v n j p h going q. since_rest g v n p j h going m q;
  read = back g;
  go = λ w d k v n j e c p h going R knows i less clear spares.
      stands g v n p j h going (e.address + i) spares ∙ (back g w d k (run g j v) e c R knows).places i less clear;
  stays = λ w d u K W s. stays g w d K W u s;
  lost = λ w d u e c K R names. key_lost g w d K u e c R names;
  go_ends = λ w d k v n j e c p h going R knows q.
      heard_there g v n p j h going (word_over g (run g j v) e R.word q)
      (λ (y : World). get_or y.storage (status_at + 4) 0 ≡ pick (no_data e (sent_at g w d k)) 0x0D 0x0C) ((back g w d k (run g j v) e c R knows).shown q);
  lost_go = λ w d v n j e c K p h going R names.
      let D = key_lost g w d K (run g j v) e c R names in
      heard_there g v n p j h going (check-over g (run g j v) _ D) (DataChecked _ (run g j v)) D;
}
