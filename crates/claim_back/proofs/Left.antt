-- What a write left on its track: the home address, or the record that it laid or went over, holds what was sent. Why: a write that did not end in Unit
-- Check laid what reads back (`claim_track:Commands.writes_leave`); an update read the count first, and changes no cell of it.
use Prim.Native.Nat.{ℕ, ◌+◌, ◌*◌, ◌<◌, ◌≤◌, max}
use mathlib.Core.Path.{◌≡◌, refl, sym, ap, ◌∙◌, subst}
use mathlib.Core.Bool.{Bool, true, false, not, false≢true}
use mathlib.Core.List.{List, []}
use mathlib.Core.Logic.{inl}
use native.Mathlib.Omega.{arith}
use lib.ListN.{length, get_or}
use lib.Dec.{ltb}
use borrow.Author.Tests.{lt-ltb}
use Rattle.cells.specs.Cells.{both, either, part, padded, track_cells}
use Rattle.cells.proofs.Laws.{length-padded}
use Rattle.cells.proofs.Marks.{both_never}
use Rattle.cells.proofs.Numbers.{Bytes, part_bytes}
use Rattle.words.specs.declared.{Word.Word, Directive.Directive, Cause.Cause}
use Rattle.words.proofs.Obeys.{TestedIn, tested_in}
use Rattle.areas.specs.declared.{Area.Area, Counts.Counts}
use Rattle.areas.specs.Areas.{home_area, count_area, counts_of, counts_at, key_area, data_area, area_cells, readable}
use Rattle.areas.proofs.Laws.{some_key}
use Rattle.hunt.specs.declared.{Spot.Spot}
use Rattle.hunt.specs.Hunt.{count_first}
use Rattle.pack.specs.declared.{Shape.Shape}
use Rattle.pack.specs.Pack.{start_of, track_at}
use Rattle.held.specs.declared.{Orders.Orders}
use Rattle.format.specs.Format.{new_counts}
use Rattle.table.specs.declared.{Write.Write, Act.Act}
use Rattle.table.specs.Table.{rule_of}
use Rattle.turn.specs.Turn.{Turn, is_check, lay}
use Rattle.command.specs.Command.{licensed, key_sent}
use Rattle.channel.specs.Channel.{fetched, World}
use Rattle.chain.specs.Step.{under, track_under, next, tracks_of, turn_of, step_by, step, Legal}
use Rattle.chain.proofs.Fits.{selected_on, ordered}
use Rattle.chain.proofs.Legal.{track_whole}
use Rattle.claim_track.specs.Damage.{In}
use Rattle.claim_track.specs.Lasting.{ReadsAs, NewBack, UpdateBack, ReadsBack, Took, Permitted, Leaves, unchanged, written}
use Rattle.claim_track.proofs.Same.{same_cells, same_readable, same_counts}
use Rattle.claim_track.proofs.Commands.{writes_leave}
use Rattle.claim_box.specs.Confined.{in_area, in_key, in_data, reaches, record_taken, reaches_from, act_reaches, bars, may_change, track_after, CommandConfined, track_on}
use Rattle.claim_box.proofs.Outside.{out_test}
use Rattle.claim_box.proofs.Commands.{command_confined}
use Rattle.claim_box.proofs.NextWord as Next
use Rattle.claim_sound.proofs.Bytes.{under-bytes}
use Rattle.claim_back.specs.Back.{Work, OnHome, OnRecord, OnNothing, selected, behind, left_by, Sent, new_sent, update_sent, sent_by, passes_key, counts_on, Wrote}
use Rattle.claim_back.proofs.Counts.{new_moved}
use Rattle.claim_back.proofs.Plans.{update_read}
use Rattle.claim_back.proofs.Given.{Holds}
use Rattle.std.specs.Prelude.{Ok, Some, Result, Option}

-- ---- the track left

module _ (g : Shape) (w : World) (L : Legal g w) (d : Word) (word : next w ≡ Ok (Directive.Obey d)) where
  pub area_inside : d.address + d.count ≤ length w.storage
  unfolding next
  area_inside = subst (TestedIn w.storage) word (tested_in w.storage w.held.channel.next w.held.channel.after_tic)

  pub track-left : track_at (step g w).cells (track_on g w * track_cells) ≡ lay (turn_of g w d).lays (track_under g w)
  unfolding step step_by under start_of
  track-left = ap (λ (x : Result Directive Cause). track_at (step_by g w x).cells (track_on g w * track_cells)) word ∙ Next.track-left g w L d area_inside

-- ---- a new record

none_of : (v : List ℕ) (from n : ℕ) → n ≡ 0 → padded n (part v from n) ≡ []
unfolding padded
none_of v from n z = ap (λ (m : ℕ). padded m (part v from m)) z

new_holds : (flag : ℕ) (v t : List ℕ) (c : ℕ) (keyed : Bool) → Bytes v → NewBack flag v t c → Holds t c (new_counts flag v) (new_sent v) keyed
unfolding new_counts counts_of new_sent
new_holds flag v t c keyed b B =
    let n : Counts = new_counts flag v in
    record {
      count = B.count.reads;
      counts = B.counts;
      moved = new_moved flag v b;
      key = λ _ h. B.key h;
      keyless = λ z. none_of v 8 n.kl z;
      body = λ h.
          let e : max 1 n.dl ≡ n.dl = omega arith in
          subst (λ (m : ℕ). ReadsAs t (data_area c n) (padded m (part v (8 + n.kl) n.dl))) e B.body;
      bodyless = λ z. none_of v (8 + n.kl) n.dl z;
      long = length-padded n.dl (part v (8 + n.kl) n.dl);
    }

-- ---- an update

module _ (key : Bool) (v t t' : List ℕ) (c : ℕ) (U : UpdateBack key v t t' c) (count : readable t' (count_area c) ≡ true) where
  abbrev n : Counts
  n = counts_at t c

  abbrev laid : Bool → Bool
  laid b = not (both (not b) (ltb 0 n.kl))

  -- a key that is there was sent, if it was not passed over
  key_holds : laid key ≡ true → 0 < n.kl → ReadsAs t' (key_area c n) (update_sent key n v).key
  unfolding update_sent key_sent
  key_holds = go key U.keyed
    where
      go : (b : Bool) → (0 < key_sent b n → ReadsAs t' (key_area c n) (padded n.kl (part v 0 n.kl))) → laid b ≡ true → 0 < n.kl
          → ReadsAs t' (key_area c n) (padded (key_sent b n) (part v 0 (key_sent b n)))
      go true f e h = f h
      go false f e h = absurd (false≢true (ap not (sym (lt-ltb 0 n.kl h)) ∙ e))

  no_key_sent : (b : Bool) → n.kl ≡ 0 → key_sent b n ≡ 0
  unfolding key_sent
  no_key_sent true z = z
  no_key_sent false z = refl

  update_holds : Holds t' c n (update_sent key n v) (laid key)
  unfolding update_sent
  update_holds = record {
    count = count;
    counts = U.counts;
    moved = refl;
    key = key_holds;
    keyless = λ z. none_of v 0 (key_sent key n) (no_key_sent key z);
    body = U.body;
    bodyless = λ z. none_of v (key_sent key n) n.dl z;
    long = length-padded n.dl (part v (key_sent key n) n.dl);
  }

-- it changes no cell before its areas, nor a key that it passes over
pub before_both : (key : Bool) (c : ℕ) (n : Counts) (i : ℕ) → i < c + 11 → reaches (Write.Update key) c n i ≡ false
unfolding reaches in_key in_data in_area key_area data_area
before_both key c n i h =
    let k = out_test (c + 11) (n.kl + 2) i (inl h) in
    let b = out_test (data_area c n).first ((data_area c n).bytes + 2) i (inl (omega arith)) in
    (λ j. either (both key (both (ltb 0 n.kl) (k j))) (both (ltb 0 n.dl) (b j)))
    ∙ never key (ltb 0 n.kl) (ltb 0 n.dl)
  where
    never : (x y z : Bool) → either (both x (both y false)) (both z false) ≡ false
    never true true z = both_never z
    never true false z = both_never z
    never false y z = both_never z

before_data : (c : ℕ) (n : Counts) (i : ℕ) → 0 < n.kl → i < c + 11 + n.kl + 2 → reaches (Write.Update false) c n i ≡ false
unfolding reaches in_data in_area data_area
before_data c n i some h =
    let b = out_test (data_area c n).first ((data_area c n).bytes + 2) i (inl (omega (arith, some_key n (λ z. omega arith)))) in
    ap (both (ltb 0 n.dl)) b ∙ both_never (ltb 0 n.dl)

-- ---- what the write left, by what it worked on

pub record HoldsSome (t : List ℕ) (c : ℕ) (x : Sent) (keyed : Bool) : Type 0 where
  pub counts : Counts
  pub holds : Holds t c counts x keyed

abbrev pub sent_on : Write → List ℕ → Option Spot → List ℕ → Sent
sent_on k t y v = sent_by k (counts_on t y) v

-- on t', which a write k with the bytes v left of t, with y selected
abbrev pub LeftIn : Write → List ℕ → List ℕ → Option Spot → List ℕ → Work → Type 0
LeftIn k t t' y v OnHome = ReadsAs t' home_area (sent_on k t y v).home × ((sent_on k t y v).body ≡ [])
LeftIn k t t' y v (OnRecord spot) = HoldsSome t' (count_first spot) (sent_on k t y v) (not (passes_key k (counts_on t y)))
LeftIn k t t' y v OnNothing = ⊥

module _ (g : Shape) (w : World) (d : Word) (k : Write) (W : Wrote g w d k) where
  abbrev t : List ℕ
  t = track_under g w

  abbrev o : Orders
  o = w.held.orders

  abbrev v : List ℕ
  v = fetched w.storage d

  abbrev x : Turn
  x = turn_of g w d

  abbrev t' : List ℕ
  t' = lay x.lays t

  sent_bytes : Bytes v
  unfolding fetched
  sent_bytes = part_bytes w.storage d.address d.count (under-bytes w.storage W.lent)

  pub leaves : Leaves (rule_of d.code) k o v t x
  unfolding turn_of track_under under tracks_of
  leaves =
      writes_leave g (tracks_of g w.cells w.held.position.cylinder) w.held.position o d.code v sent_bytes k W.act
      (selected_on _ o (ordered g w W.legal)) (track_whole g w W.legal).long

  -- ---- what an update did not change

  confined : CommandConfined g (tracks_of g w.cells w.held.position.cylinder) w.held.position o d.code v
  unfolding track_under tracks_of under
  confined = command_confined g _ _ _ _ _ (track_whole g w W.legal)

  may_not : (i : ℕ) → act_reaches (rule_of d.code).act t o.selection i ≡ false → may_change (rule_of d.code) o t i ≡ false
  unfolding may_change
  may_not i e =
      let l : Bool = licensed (rule_of d.code).licence o in
      let b : Bool = not (bars (rule_of d.code).bar o.mask) in
      ap (λ (z : Bool). both l (both b z)) e ∙ ap (both l) (both_never b) ∙ both_never l

  module _ (spot : Spot) (is : o.selection ≡ Some spot) where
    reached : (i : ℕ) → reaches k (count_first spot) (counts_at t (count_first spot)) i ≡ false → record_taken k (Some spot) ≡ Some spot
        → act_reaches (rule_of d.code).act t o.selection i ≡ false
    unfolding act_reaches reaches_from
    reached i e q =
        ap (λ (a : Act). act_reaches a t o.selection i) W.act
        ∙ ap (λ (y : Option Spot). reaches_from k t (record_taken k y) i) is ∙ ap (λ (y : Option Spot). reaches_from k t y i) q ∙ e

    pub cell_kept : record_taken k (Some spot) ≡ Some spot → (i : ℕ) → reaches k (count_first spot) (counts_at t (count_first spot)) i ≡ false
        → get_or t' i 0 ≡ get_or t i 0
    unfolding track_under tracks_of under turn_of track_after
    cell_kept q i e = confined.cells i (may_not i (reached i e q))

    kept : record_taken k (Some spot) ≡ Some spot → (a : Area) → ((i : ℕ) → In a i → reaches k (count_first spot) (counts_at t (count_first spot)) i ≡ false)
        → area_cells t' a ≡ area_cells t a
    unfolding track_under tracks_of under turn_of track_after
    kept q a f = same_cells t t' a confined.long (λ i h. cell_kept q i (f i h))

-- ---- each write

module _ (g : Shape) (w : World) (d : Word) (key : Bool) (W : Wrote g w d (Write.Update key)) (spot : Spot)
    (is : w.held.orders.selection ≡ Some spot) where
  abbrev k : Write
  k = Write.Update key

  abbrev c : ℕ
  c = count_first spot

  abbrev m : Counts
  m = counts_at (track_under g w) c

  taken : record_taken k (Some spot) ≡ Some spot
  unfolding record_taken
  taken = refl

  count_stays : area_cells (lay (turn_of g w d).lays (track_under g w)) (count_area c) ≡ area_cells (track_under g w) (count_area c)
  count_stays = kept g w d k W spot is taken (count_area c) (λ i h. before_both key c m i (omega (arith, h.1)))

  count-back : Permitted (rule_of d.code) w.held.orders → readable (lay (turn_of g w d).lays (track_under g w)) (count_area c) ≡ true
  unfolding turn_of track_under under tracks_of
  count-back P =
      same_readable (track_under g w) (lay (turn_of g w d).lays (track_under g w)) (count_area c) count_stays
      ∙ update_read g (tracks_of g w.cells w.held.position.cylinder) w.held.position w.held.orders d.code (fetched w.storage d) key W.act
      P spot is W.done

module _ (g : Shape) (w : World) (d : Word) where
  abbrev LeftThere : Write → Option Spot → Work → Type 0
  LeftThere k y z = LeftIn k (track_under g w) (lay (turn_of g w d).lays (track_under g w)) y (fetched w.storage d) z

  left-each : (k : Write) → Wrote g w d k → Permitted (rule_of d.code) w.held.orders → (spot : Spot) → Took k w.held.orders.selection spot
      → ReadsBack k (count_first spot) (fetched w.storage d) (track_under g w) (lay (turn_of g w d).lays (track_under g w))
      → LeftThere k w.held.orders.selection (left_by k (track_under g w) w.held.orders.selection)
  unfolding Took ReadsBack left_by behind selected sent_by passes_key counts_on count_first
  left-each Write.HomeAddress W P spot took B = (B, refl)
  left-each Write.R0 W P spot took B = record { counts = _; holds = new_holds _ _ _ _ _ (sent_bytes g w d Write.R0 W) B }
  left-each Write.CountKeyData W P spot took B =
      subst (λ (y : Option Spot). LeftThere Write.CountKeyData y (behind (track_under g w) y)) (sym took)
      (record { counts = _; holds = new_holds _ _ _ _ _ (sent_bytes g w d Write.CountKeyData W) B.back })
  left-each (Write.Update key) W P spot took B =
      subst (λ (y : Option Spot). LeftThere (Write.Update key) y (selected y)) (sym took)
      (record { counts = _; holds = update_holds key _ _ _ _ B (count-back g w d key W spot took P) })

  pub left_in : (k : Write) → Wrote g w d k → LeftThere k w.held.orders.selection (left_by k (track_under g w) w.held.orders.selection)
  unfolding is_check
  left_in k W = go (leaves g w d k W)
    where
      go : Leaves (rule_of d.code) k w.held.orders (fetched w.storage d) (track_under g w) (turn_of g w d)
          → LeftThere k w.held.orders.selection (left_by k (track_under g w) w.held.orders.selection)
      go (unchanged row e l) = absurd (false≢true (sym W.done ∙ ap is_check e))
      go (written P spot took n lasts back) = left-each k W P spot took back

-- ---- a key that an 05 passed over

module _ (g : Shape) (w : World) (d : Word) (W : Wrote g w d (Write.Update false)) (spot : Spot) (is : w.held.orders.selection ≡ Some spot) where
  abbrev update : Write
  update = Write.Update false

  abbrev there : List ℕ
  there = lay (turn_of g w d).lays (track_under g w)

  pub count_same : counts_at there (count_first spot) ≡ counts_at (track_under g w) (count_first spot)
  count_same = same_counts (track_under g w) there (count_first spot) (count_stays g w d false W spot is)

  pub count-readable : readable there (count_area (count_first spot)) ≡ true
  unfolding left_by selected
  count-readable =
      (subst (λ (y : Option Spot). LeftIn update (track_under g w) there w.held.orders.selection (fetched w.storage d) (selected y)) is (left_in g w d update W)
      ).holds.count

  pub key_same : 0 < (counts_at (track_under g w) (count_first spot)).kl
      → readable there (key_area (count_first spot) (counts_at (track_under g w) (count_first spot)))
      ≡ readable (track_under g w) (key_area (count_first spot) (counts_at (track_under g w) (count_first spot)))
  unfolding key_area record_taken
  key_same some =
      let a : Area = key_area (count_first spot) (counts_at (track_under g w) (count_first spot)) in
      same_readable (track_under g w) there a
      (kept g w d update W spot is refl a (λ i h. before_data (count_first spot) (counts_at (track_under g w) (count_first spot)) i some (omega (arith, h.1))))
