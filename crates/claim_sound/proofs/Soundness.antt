-- Soundness lasts. By the word: another track's cells stand; on the track under the head only a write lays cells, and none if it ends in Unit Check; Write R0
-- leaves a soundly written track whatever it was, the others one if it was, but for Write HA (`claim_track:Commands`), after which nothing is known. By the
-- allowance, the call and the calls: one after another, each from a legal world whose storage is bytes.
use Prim.Native.Nat.{ℕ, zero, suc}
use mathlib.Core.Path.{◌≡◌, refl, sym, ap, ◌∙◌, subst}
use mathlib.Core.Bool.{Bool, true, false, not, false≢true, true≢false}
use mathlib.Core.List.{List, [], ◌∷◌}
use native.Mathlib.Omega.{arith}
use lib.Dec.{eqb}
use borrow.Author.Tests.{eqb-true, eqb-false, not-true}
use Rattle.cells.specs.Cells.{pick, both, marks}
use Rattle.cells.proofs.Numbers.{Bytes, part_bytes}
use Rattle.cells.proofs.Marks.{both_never}
use Rattle.cells.proofs.Tests.{first_of, second_of, pick_all}
use Rattle.rows.specs.declared.{Row.Row}
use Rattle.words.specs.declared.{Word.Word, Directive.Directive, Cause.Cause}
use Rattle.words.proofs.Obeys.{TestedIn, tested_in}
use Rattle.pack.specs.declared.{Shape.Shape}
use Rattle.pack.specs.Pack.{start_of}
use Rattle.held.specs.declared.{Orders.Orders}
use Rattle.table.specs.declared.{Write.Write, Act.Act, Rule.Rule}
use Rattle.table.specs.Table.{rule_of, is_write}
use Rattle.turn.specs.declared.{Ending.Ending}
use Rattle.turn.specs.Turn.{Piece, Turn, is_check, lay}
use Rattle.command.specs.Command.{SelectedOn}
use Rattle.channel.specs.Channel.{fetched, World, stops}
use Rattle.chain.specs.Step.{under, track_under, next, tracks_of, turn_of, step_by, step, run, Legal}
use Rattle.chain.proofs.Fits.{selected_on, ordered}
use Rattle.chain.proofs.Legal.{track_whole, step_legal}
use Rattle.chain.proofs.Runs.{run_idle}
use Rattle.host.specs.declared.{Answer.Answer}
use Rattle.host.specs.Host.{hears, guard_of, guards, ran, goes, if_passes, no_refusal}
use Rattle.host.proofs.Laws.{passes_legal}
use Rattle.sound.specs.Sound.{Sound}
use Rattle.claim_track.specs.Lasting.{Lasts, Leaves, unchanged, written}
use Rattle.claim_track.proofs.Commands.{writes_leave, writes_sound}
use Rattle.claim_box.specs.Confined.{track_on, spares}
use Rattle.claim_box.specs.Demand3.{track, HostCall, start, go, hear, left}
use Rattle.claim_box.proofs.Confined.{all_confined}
use Rattle.claim_sound.specs.Soundness.{InBytes, writes_home, writes_r0, is_the, tested_done, done, done_on, known_next, known_run, known_go, known_call, known_calls, Known, home_kept, homes_kept, SoundnessLasts}
use Rattle.claim_sound.proofs.Bytes.{under-bytes}
use Rattle.claim_sound.proofs.Tracks.{other_track, put_there, none_laid, checked_laid, run_same, go_same}
use Rattle.claim_sound.proofs.Words.{step-bytes, call-bytes, calls_bytes}
use Rattle.std.specs.Prelude.{Ok, Err, Result}
use Rattle.words.specs.declared.Directive.TheVariants.{Obey, Jump}

-- ---- a write that was done left what lasts

check_not : (x : Turn) (row : Row) → x.ending ≡ Ending.Check row → is_check x.ending ≡ true
unfolding is_check
check_not x row e = ap is_check e

done_lasts : (r : Rule) (k : Write) (o : Orders) (v t : List ℕ) (x : Turn) → is_check x.ending ≡ false → Leaves r k o v t x → Lasts k t (lay x.lays t)
done_lasts r k o v t x e (unchanged row c q) = absurd (true≢false (sym (check_not x row c) ∙ e))
done_lasts r k o v t x e (written a spot took n p q) = p

-- no cell laid
as_it_was : (l : List Piece) (t : List ℕ) → l ≡ [] → Sound t → Sound (lay l t)
unfolding lay
as_it_was l t e S = subst (λ (y : List Piece). Sound (lay y t)) (sym e) S

module _ (g : Shape) where
  module _ (w : World) (L : Legal g w) (b : InBytes w) where
    abbrev here : ℕ
    here = track_on g w

    abbrev t : List ℕ
    t = track_under g w

    -- ---- the track under the head

    module _ (d : Word) where
      abbrev x : Turn
      x = turn_of g w d

      selected : SelectedOn (marks (tracks_of g w.cells w.held.position.cylinder w.held.position.head)) w.held.orders.selection
      unfolding tracks_of track_under under
      selected = selected_on _ w.held.orders (ordered g w L)

      sent : Bytes (fetched w.storage d)
      unfolding fetched
      sent = part_bytes w.storage d.address d.count (under-bytes w.storage b.storage)

      module _ (k : Write) (act : (rule_of d.code).act ≡ Act.Write k) where
        leaves : Leaves (rule_of d.code) k w.held.orders (fetched w.storage d) t x
        unfolding turn_of track_under under tracks_of fetched
        leaves =
            writes_leave g (tracks_of g w.cells w.held.position.cylinder) w.held.position w.held.orders d.code (fetched w.storage d)
            sent k act selected (track_whole g w L).long

        still_sound : (k ≡ Write.HomeAddress → ⊥) → Sound t → Sound (lay x.lays t)
        unfolding turn_of track_under under tracks_of fetched
        still_sound n S =
            writes_sound g (tracks_of g w.cells w.held.position.cylinder) w.held.position w.held.orders d.code (fetched w.storage d)
            sent k act selected n S

      unlaid : x.lays ≡ [] → Sound t → Sound (lay x.lays t)
      unlaid e S = as_it_was x.lays t e S

      -- by what the command is, and whether it ended in Unit Check
      abbrev knows : Act → Bool → Bool → Bool
      knows a c y = pick (both (is_the writes_home a) (not c)) false (pick (both (is_the writes_r0 a) (not c)) true y)

      act_sound : (a : Act) → (rule_of d.code).act ≡ a → (c : Bool) → is_check x.ending ≡ c → (y : Bool) → knows a c y ≡ true → (y ≡ true → Sound t)
          → Sound (lay x.lays t)
      unfolding is_the writes_home writes_r0 is_write Lasts
      act_sound (Act.Control a) e c f y q S = unlaid (none_laid g w L d (ap is_write e)) (S q)
      act_sound (Act.Search h) e c f y q S = unlaid (none_laid g w L d (ap is_write e)) (S q)
      act_sound (Act.Read n) e c f y q S = unlaid (none_laid g w L d (ap is_write e)) (S q)
      act_sound (Act.Write Write.HomeAddress) e true f y q S = unlaid (checked_laid g w L d f) (S q)
      act_sound (Act.Write Write.HomeAddress) e false f y q S = absurd (false≢true q)
      act_sound (Act.Write Write.R0) e true f y q S = unlaid (checked_laid g w L d f) (S q)
      act_sound (Act.Write Write.R0) e false f y q S = done_lasts _ Write.R0 _ _ t x f (leaves Write.R0 e)
      act_sound (Act.Write Write.CountKeyData) e c f y q S = still_sound Write.CountKeyData e (λ z. let n : ◌≡◌ {A = ℕ} 0 1 = cc in omega arith) (S q)
      act_sound (Act.Write (Write.Update key)) e c f y q S = still_sound (Write.Update key) e (λ z. let n : ◌≡◌ {A = ℕ} 0 1 = cc in omega arith) (S q)

    -- ---- the next word

    module _ (y : Bool) (S : y ≡ true → Sound t) where
      abbrev knows_by : Result Directive Cause → Bool
      knows_by z = pick (tested_done g writes_home w z) false (pick (tested_done g writes_r0 w z) true y)

      takes_sound : (z : Result Directive Cause) → TestedIn w.storage z → knows_by z ≡ true → Sound (track (step_by g w z).cells here)
      unfolding step_by stops tested_done track_under under start_of
      takes_sound (Ok (Obey d)) r q =
          subst Sound (sym (put_there g w L d r)) (act_sound d (rule_of d.code).act refl (is_check (turn_of g w d).ending) refl y q S)
      takes_sound (Ok (Jump a)) r q = S q
      takes_sound (Err cause) r q = S q

    -- ---- any track

    step_known : (m : ℕ) (y : Bool) → Known m w.cells y → Known m (step g w).cells (known_next g m w y)
    unfolding known_next done_on done step next track_under under start_of
    step_known m y S = go (eqb m here) refl
      where
        go : (e : Bool) → eqb m here ≡ e → pick (both e (done g writes_home w)) false (pick (both e (done g writes_r0 w)) true y) ≡ true → Sound (track (step g w).cells m)
        go true e q =
            let p : m ≡ here = eqb-true m here e in
            subst (λ (k : ℕ). Sound (track (step g w).cells k)) (sym p)
            (takes_sound y (λ f. subst (λ (k : ℕ). Sound (track w.cells k)) p (S f)) (next w)
            (tested_in w.storage w.held.channel.next w.held.channel.after_tic) q)
        go false e q = subst Sound (sym (other_track g w L m (eqb-false m here e))) (S q)

    -- ---- a Write R0 that was done is no Write HA

    one_act : (a : Act) (c : Bool) → both (is_the writes_r0 a) c ≡ true → both (is_the writes_home a) c ≡ false
    unfolding is_the writes_r0 writes_home
    one_act (Act.Control a) c e = absurd (false≢true e)
    one_act (Act.Search h) c e = absurd (false≢true e)
    one_act (Act.Read n) c e = absurd (false≢true e)
    one_act (Act.Write Write.HomeAddress) c e = absurd (false≢true e)
    one_act (Act.Write Write.R0) c e = refl
    one_act (Act.Write Write.CountKeyData) c e = absurd (false≢true e)
    one_act (Act.Write (Write.Update key)) c e = absurd (false≢true e)

    one_done : (z : Result Directive Cause) → tested_done g writes_r0 w z ≡ true → tested_done g writes_home w z ≡ false
    unfolding tested_done
    one_done (Ok (Obey d)) e = one_act (rule_of d.code).act _ e
    one_done (Ok (Jump a)) e = refl
    one_done (Err cause) e = refl

    r0_known : (m : ℕ) → done_on g writes_r0 m w ≡ true → known_next g m w false ≡ true
    unfolding known_next done_on done
    r0_known m e =
        let z : done g writes_r0 w ≡ true = second_of (eqb m here) _ e in
        let y : done g writes_home w ≡ false = one_done (next w) z in
        λ i. pick (both (first_of (eqb m here) _ e i) (y i)) false (pick (e i) true false)

    step_r0 : (m : ℕ) → done_on g writes_r0 m w ≡ true → Sound (track (step g w).cells m)
    step_r0 m e = step_known m false (λ f. absurd (false≢true f)) (r0_known m e)

  -- ---- an allowance

  run_known : (m n : ℕ) (w : World) → Legal g w → InBytes w → (y : Bool) → Known m w.cells y → Known m (run g n w).cells (known_run g m n w y)
  unfolding run known_run
  run_known m zero w L b y S = S
  run_known m (suc n) w L b y S =
      go w.held.channel.going (run_known m n (step g w) (step_legal g w L) (step-bytes g w L b) (known_next g m w y) (step_known w L b m y S))
    where
      go : (c : Bool) → Known m (run g n (step g w)).cells (known_run g m n (step g w) (known_next g m w y))
          → Known m (pick c (run g n (step g w)) w).cells (pick c (known_run g m n (step g w) (known_next g m w y)) y)
      go true h = h
      go false h = S

  -- ---- a call

  module _ (m : ℕ) (w : World) (b : InBytes w) (y : Bool) (S : Known m w.cells y) where
    go_known : (n : ℕ) (x : Result (Unit {0}) Answer) (c : Bool) → guard_of g w ≡ x → w.held.channel.going ≡ c
        → Known m (guards x w (pick c (ran (run g n w)) (hears Answer.NoChain w))).left.cells (known_go x (known_run g m n w y) y)
    unfolding guards ran known_go
    go_known n (Ok tt) true e f = run_known m n w (passes_legal g w e) b y S
    go_known n (Ok tt) false e f =
        subst (λ (v : World). Known m v.cells (known_run g m n w y)) (run_idle g n w f) (run_known m n w (passes_legal g w e) b y S)
    go_known n (Err a) c e f = S

    call_known : (k : HostCall) → Known m (hear g k w).left.cells (known_call g m k w y)
    unfolding hear goes known_call
    call_known start = subst (λ (c : List ℕ). Known m c y) (sym ((all_confined g).call 0 w).start_cells) S
    call_known (go n) = go_known n (guard_of g w) w.held.channel.going refl refl

  calls_known : (m : ℕ) (ks : List HostCall) (w : World) → InBytes w → (y : Bool) → Known m w.cells y → Known m (left g ks w).cells (known_calls g m ks w y)
  unfolding left known_calls
  calls_known m [] w b y S = S
  calls_known m (k ∷ ks) w b y S = calls_known m ks (hear g k w).left (call-bytes g w b k) (known_call g m k w y) (call_known m w b y S k)

  -- ---- the pack: where no Write HA was done, what was known is known

  next_keeps : (m : ℕ) (w : World) → done g writes_home w ≡ false → known_next g m w true ≡ true
  unfolding known_next done_on
  next_keeps m w e =
      let here : ℕ = track_on g w in
      ap (λ (b : Bool). pick b false (pick (both (eqb m here) (done g writes_r0 w)) true true)) (ap (both (eqb m here)) e ∙ both_never (eqb m here))
      ∙ pick_all (λ (b : Bool). b ≡ true) (both (eqb m here) (done g writes_r0 w)) refl refl

  run_keeps : (m n : ℕ) (w : World) → spares g (done g writes_home) n w ≡ true → known_run g m n w true ≡ true
  unfolding known_run spares
  run_keeps m zero w e = refl
  run_keeps m (suc n) w e = go w.held.channel.going e (run_keeps m n (step g w))
    where
      go : (c : Bool) → pick c (both (not (done g writes_home w)) (spares g (done g writes_home) n (step g w))) true ≡ true
          → (spares g (done g writes_home) n (step g w) ≡ true → known_run g m n (step g w) true ≡ true)
          → pick c (known_run g m n (step g w) (known_next g m w true)) true ≡ true
      go true f h =
          ap (known_run g m n (step g w)) (next_keeps m w (not-true (done g writes_home w) (first_of (not (done g writes_home w)) _ f)))
          ∙ h (second_of (not (done g writes_home w)) _ f)
      go false f h = refl

  go_keeps : (m n : ℕ) (w : World) (x : Result (Unit {0}) Answer) → if_passes x (spares g (done g writes_home) n w) ≡ true → known_go x (known_run g m n w true) true ≡ true
  unfolding if_passes known_go
  go_keeps m n w (Ok tt) e = run_keeps m n w e
  go_keeps m n w (Err a) e = refl

  pub call_keeps : (m : ℕ) (k : HostCall) (w : World) → home_kept g k w ≡ true → known_call g m k w true ≡ true
  unfolding home_kept known_call
  call_keeps m start w e = refl
  call_keeps m (go n) w e = go_keeps m n w (guard_of g w) e

  calls_keep : (m : ℕ) (ks : List HostCall) (w : World) → homes_kept g ks w ≡ true → known_calls g m ks w true ≡ true
  unfolding homes_kept known_calls
  calls_keep m [] w e = refl
  calls_keep m (k ∷ ks) w e =
      ap (known_calls g m ks (hear g k w).left) (call_keeps m k w (first_of (home_kept g k w) _ e))
      ∙ calls_keep m ks (hear g k w).left (second_of (home_kept g k w) _ e)

-- ---- all of it

pub soundness_lasts : (g : Shape) → SoundnessLasts g
soundness_lasts g = record {
  bytes_word = step-bytes g;
  bytes_calls = calls_bytes g;
  same = run_same g;
  same_go = go_same g;
  word = λ m w L b y S. step_known g w L b m y S;
  allowance = run_known g;
  calls = calls_known g;
  r0 = λ m w L b e. step_r0 g w L b m e;
  pack = λ ks w b e S m h. calls_known g m ks w b true (λ _. S m h) (calls_keep g m ks w e);
}
