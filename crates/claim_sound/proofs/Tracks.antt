-- A track after a word: another track's cells stand; the track under the head has the cells that the command laid, and a command lays none unless it is a write
-- that ends without Unit Check. So a track on which no such write was done is as it was, over an allowance and a go.
use Prim.Native.Nat.{ℕ, zero, suc, ◌+◌, ◌*◌, ◌≤◌}
use mathlib.Core.Path.{◌≡◌, refl, sym, ap, ◌∙◌, subst}
use mathlib.Core.Bool.{Bool, true, false, not, false≢true}
use mathlib.Core.List.{List, []}
use lib.ListN.{length}
use lib.Dec.{eqb}
use borrow.Author.Tests.{eqb-true, eqb-false, not-true}
use Rattle.cells.specs.Cells.{pick, both, track_cells}
use Rattle.cells.proofs.Tests.{first_of, second_of}
use Rattle.words.specs.declared.{Word.Word, Directive.Directive, Cause.Cause}
use Rattle.words.proofs.Obeys.{TestedIn, tested_in}
use Rattle.pack.specs.declared.{Shape.Shape}
use Rattle.pack.specs.Pack.{start_of}
use Rattle.table.specs.declared.{Act.Act}
use Rattle.table.specs.Table.{rule_of, is_write}
use Rattle.turn.specs.Turn.{Piece, is_check, lay}
use Rattle.command.proofs.Turns.{check_lays, only_writes-lay}
use Rattle.channel.specs.Channel.{fetched, World, stops}
use Rattle.chain.specs.Step.{under, track_under, next, turn_of, obeyed, step_by, step, run, Legal}
use Rattle.chain.proofs.Legal.{step_legal}
use Rattle.host.specs.declared.{Answer.Answer}
use Rattle.host.specs.Host.{hears, guard_of, guards, ran, goes, if_passes}
use Rattle.host.proofs.Laws.{passes_legal}
use Rattle.claim_box.specs.Confined.{track_on, spares}
use Rattle.claim_box.specs.Demand3.{track}
use Rattle.claim_box.proofs.Outside.{apart, same_track}
use Rattle.claim_box.proofs.Confined.{all_confined}
use Rattle.claim_box.proofs.NextWord.{track-left}
use Rattle.claim_sound.specs.Soundness.{any_write, is_the, tested_done, done, done_on, spares_done}
use Rattle.std.specs.Prelude.{Ok, Err, Result}
use Rattle.words.specs.declared.Directive.TheVariants.{Obey, Jump}

module _ (g : Shape) where
  module _ (w : World) (L : Legal g w) where
    abbrev here : ℕ
    here = track_on g w

    abbrev t : List ℕ
    t = track_under g w

    -- ---- another track

    pub other_track : (m : ℕ) → (m ≡ here → ⊥) → track (step g w).cells m ≡ track w.cells m
    unfolding under start_of
    other_track m d =
        let C = (all_confined g).word w L in
        same_track w.cells (step g w).cells m C.long (λ i h. C.elsewhere (m * track_cells + i) (apart m here i d h))

    -- ---- the track under the head

    module _ (d : Word) where
      pub put_there : d.address + d.count ≤ length w.storage → track (obeyed g w d).cells here ≡ lay (turn_of g w d).lays t
      unfolding under start_of
      put_there r = track-left g w L d r

      -- a command that is no write, or ends in Unit Check, lays nothing
      pub none_laid : is_write (rule_of d.code).act ≡ false → (turn_of g w d).lays ≡ []
      unfolding turn_of
      none_laid e = only_writes-lay g _ w.held.position w.held.orders d.code (fetched w.storage d) e

      pub checked_laid : is_check (turn_of g w d).ending ≡ true → (turn_of g w d).lays ≡ []
      unfolding turn_of
      checked_laid e = check_lays g _ w.held.position w.held.orders d.code (fetched w.storage d) e

      undone_laid : (a : Act) → (rule_of d.code).act ≡ a → (c : Bool) → is_check (turn_of g w d).ending ≡ c → both (is_the any_write a) (not c) ≡ false
          → (turn_of g w d).lays ≡ []
      unfolding is_the is_write
      undone_laid (Act.Control a) e c f q = none_laid (ap is_write e)
      undone_laid (Act.Search h) e c f q = none_laid (ap is_write e)
      undone_laid (Act.Read n) e c f q = none_laid (ap is_write e)
      undone_laid (Act.Write k) e true f q = checked_laid f
      undone_laid (Act.Write k) e false f q = absurd (false≢true (sym q))

    takes_same : (z : Result Directive Cause) → TestedIn w.storage z → tested_done g any_write w z ≡ false → track (step_by g w z).cells here ≡ t
    unfolding step_by stops tested_done track_under under start_of lay
    takes_same (Ok (Obey d)) r q =
        put_there d r ∙ ap (λ (l : List Piece). lay l t) (undone_laid d (rule_of d.code).act refl (is_check (turn_of g w d).ending) refl q)
    takes_same (Ok (Jump a)) r q = refl
    takes_same (Err cause) r q = refl

    -- ---- a track on which no write was done

    step_same : (m : ℕ) → done_on g any_write m w ≡ false → track (step g w).cells m ≡ track w.cells m
    unfolding done_on done step next track_under under start_of
    step_same m q = go (eqb m here) refl q
      where
        go : (e : Bool) → eqb m here ≡ e → both e (done g any_write w) ≡ false → track (step g w).cells m ≡ track w.cells m
        go true e f =
            subst (λ (k : ℕ). track (step g w).cells k ≡ track w.cells k) (sym (eqb-true m here e))
            (takes_same (next w) (tested_in w.storage w.held.channel.next w.held.channel.after_tic) f)
        go false e f = other_track m (eqb-false m here e)

  pub run_same : (m n : ℕ) (w : World) → Legal g w → spares_done g m n w ≡ true → track (run g n w).cells m ≡ track w.cells m
  unfolding run spares_done spares
  run_same m zero w L e = refl
  run_same m (suc n) w L e = go w.held.channel.going e (run_same m n (step g w) (step_legal g w L))
    where
      go : (b : Bool) → pick b (both (not (done_on g any_write m w)) (spares g (done_on g any_write m) n (step g w))) true ≡ true
          → (spares g (done_on g any_write m) n (step g w) ≡ true → track (run g n (step g w)).cells m ≡ track (step g w).cells m)
          → track (pick b (run g n (step g w)) w).cells m ≡ track w.cells m
      go true e f =
          f (second_of (not (done_on g any_write m w)) _ e)
          ∙ step_same w L m (not-true (done_on g any_write m w) (first_of (not (done_on g any_write m w)) _ e))
      go false e f = refl

  pub go_same : (m n : ℕ) (w : World) → if_passes (guard_of g w) (spares_done g m n w) ≡ true → track (goes g n w).left.cells m ≡ track w.cells m
  unfolding goes guards if_passes ran
  go_same m n w e = go (guard_of g w) w.held.channel.going refl e
    where
      go : (x : Result (Unit {0}) Answer) (b : Bool) → guard_of g w ≡ x → if_passes x (spares_done g m n w) ≡ true
          → track (guards x w (pick b (ran (run g n w)) (hears Answer.NoChain w))).left.cells m ≡ track w.cells m
      go (Ok tt) true p q = run_same m n w (passes_legal g w p) q
      go (Ok tt) false p q = refl
      go (Err a) b p q = refl
