-- The loop comes to the record whose ID was sent: every search before it comes to another record, whose ID differs, and the TIC leads back; the walk over
-- the markers ends at that record before a second index point would be passed.
use Prim.Native.Nat.{ℕ, zero, suc, ◌+◌, ◌-◌, ◌*◌, ◌<◌, ◌≤◌}
use mathlib.Core.Path.{◌≡◌, refl, sym, ap, ◌∙◌, subst}
use mathlib.Core.Bool.{Bool, true, false}
use mathlib.Core.List.{List}
use mathlib.Core.Logic.{◌⊎◌, inl, inr}
use native.Mathlib.Omega.{arith}
use lib.Dec.{ltb}
use Rattle.cells.specs.Cells.{pick, marks}
use Rattle.cells.proofs.Marks.{length-marks}
use Rattle.rows.specs.declared.{Sense.Sense}
use Rattle.words.specs.Words.{word_bytes, along}
use Rattle.areas.specs.Areas.{count_area, readable}
use Rattle.hunt.specs.declared.{Spot.Spot}
use Rattle.hunt.specs.declared.Spot.TheVariants.{R0, Marker}
use Rattle.hunt.specs.Hunt.{spot_fits, count_first, next_id}
use Rattle.hunt.proofs.Inside.{NextOn, id_on, spot_in}
use Rattle.pack.specs.declared.{Shape.Shape}
use Rattle.held.specs.Held.{no_sense}
use Rattle.table.specs.declared.{How.How, Write.Write}
use Rattle.command.specs.Command.{satisfied}
use Rattle.turn.specs.Turn.{position_at, orders_of, after}
use Rattle.channel.specs.Channel.{onward, World, world, jumped, fetched}
use Rattle.chain.specs.Step.{under, track_under, next, step, run}
use Rattle.chain.proofs.Fits.{next_in, channeled}
use Rattle.chain.proofs.Runs.{run_on, run_split}
use Rattle.claim_track.specs.Damage.{IsRecord, own_count}
use Rattle.claim_track.proofs.Areas.{begun-marker, own_readable}
use Rattle.words.specs.declared.{Word.Word}
use Rattle.pack.specs.Pack.{start_of}
use Rattle.host.specs.declared.Answer.TheVariants.{NoChain}
use Rattle.host.specs.Host.{hears, guard_of, guards, ran, goes, no_refusal}
use Rattle.claim_box.specs.Confined.{track_on}
use Rattle.claim_box.specs.Demand3.{track}
use Rattle.claim_back.proofs.There.{still_there}
use Rattle.claim_back.specs.Back.{sent_at}
use Rattle.claim_back.specs.Found.{id_at, Seeks, found_held, found_at, InLoop, Comes, Found, Loops, Left, StillThere, id_sent, search_id}
use Rattle.claim_back.proofs.FoundWalk.{marked_most, Walk, here, on, Lies, Way, walk}
use Rattle.claim_back.proofs.FoundWord.{misses, meets, searched, search_step, tic_step}
use Rattle.claim_back.proofs.FoundMet.{met}
use Rattle.std.specs.Prelude.{Some, Ok, Option}

-- a go that passes runs its words
go_ran : (g : Shape) (n : ℕ) (w : World) → guard_of g w ≡ no_refusal → w.held.channel.going ≡ true → goes g n w ≡ ran (run g n w)
unfolding goes guards
go_ran g n w p q = λ i. guards (p i) w (pick (q i) (ran (run g n w)) (hears NoChain w))

module _ (g : Shape) (w : World) (p flags : ℕ) (r : Spot) (S : Seeks g w p flags r) where
  abbrev t : List ℕ
  t = track_under g w

  abbrev m : List Bool
  m = marks t

  abbrev a : ℕ
  a = w.held.channel.next

  -- ---- the chain on its way: at a word so many bytes on, with this place, sense, command before, whether equal, tally and selection

  abbrev at : ℕ → Bool → ℕ → Sense → ℕ → Bool → ℕ → Option Spot → World
  at next tic place sense before whole tally selection =
      world
      (record {
        position = record { cylinder = w.held.position.cylinder; head = w.held.position.head; place = place; sense = sense };
        orders = record {
          mask = w.held.orders.mask;
          mask_set = w.held.orders.mask_set;
          before = before;
          whole = whole;
          tally = tally;
          selection = selection;
        };
        channel = record { going = w.held.channel.going; key = w.held.channel.key; next = next; after_tic = tic };
      })
      w.storage w.cells

  -- .. after a search that came to x
  abbrev after31 : ℕ → Bool → Bool → ℕ → Spot → World
  after31 next tic whole tally x = at next tic (count_first x) no_sense 0x31 whole tally (Some x)

  in_loop : (next : ℕ) (tic : Bool) (place : ℕ) (sense : Sense) (before : ℕ) (whole : Bool) (tally : ℕ) (x : Option Spot) → (next ≡ a) ⊎ (next ≡ along a word_bytes)
      → InLoop w (at next tic place sense before whole tally x)
  in_loop next tic place sense before whole tally x h = record { going = S.loops.going; word = h; storage = refl; cells = refl }

  -- ---- its words

  there : (q : ℕ) (x : Spot) (n : ℕ) → next_id m q ≡ Some (x, n) → IsRecord t x
  there q x n e = subst (NextOn m) e (id_on m q)

  read : (x : Spot) → IsRecord t x → readable t (count_area (count_first x)) ≡ true
  read x f = own_readable t S.loops.sound _ (own_count x f)

  home : along a 0 ≡ a
  home = omega (arith, next_in w.held.channel (channeled g w S.loops.legal))

  module _ (tic : Bool) (q : ℕ) (sense : Sense) (before : ℕ) (whole : Bool) (tally : ℕ) (sel : Option Spot) where
    abbrev v : World
    v = at a tic q sense before whole tally sel

    searches : (x : Spot) (n h : ℕ) (b : Bool) → next_id m q ≡ Some (x, n) → tally + n ≡ h → h ≤ 1
        → satisfied How.IfEqual (id_at t x) (id_at t r) ≡ b → step g v ≡ searched g v x h b
    unfolding next track_under under
    searches x n h b e c l sat = search_step g v p flags x r n h b (S.loops.loop.search tic) S.loops.loop.chained S.sent e c l (read x (there q x n e)) sat

    -- the record itself
    finds : (n h : ℕ) → next_id m q ≡ Some (r, n) → tally + n ≡ h → h ≤ 1 → run g 1 v ≡ after31 (along a (word_bytes + word_bytes)) false true h r
    unfolding run onward position_at after orders_of
    finds n h e c l = run_on g 0 v S.loops.going ∙ searches r n h true e c l (meets t r)

    -- another
    module _ (x : Spot) (n h : ℕ) (e : next_id m q ≡ Some (x, n)) (c : tally + n ≡ h) (l : h ≤ 1) (d : x ≡ r → ⊥) where
      passes : step g v ≡ after31 (along a word_bytes) false false h x
      unfolding onward position_at after orders_of
      passes = searches x n h false e c l (misses t x r (λ k. d (S.loops.differ x r (there q x n e) S.there k)))

      returns : step g (after31 (along a word_bytes) false false h x) ≡ after31 a true false h x
      unfolding next jumped
      returns = tic_step g (after31 (along a word_bytes) false false h x) a S.loops.loop.back ∙ (λ i. after31 (home i) true false h x)

      one : (k : ℕ) → run g (suc k) v ≡ run g k (after31 (along a word_bytes) false false h x)
      one k = run_on g k v S.loops.going ∙ ap (run g k) passes

      two : (k : ℕ) → run g (suc (suc k)) v ≡ run g k (after31 a true false h x)
      two k = one (suc k) ∙ run_on g k (after31 (along a word_bytes) false false h x) S.loops.going ∙ ap (run g k) returns

  -- ---- the way

  record Reaches (k j : ℕ) (v : World) : Type 0 where
    words : ℕ
    most : words ≤ 2 * k + 1
    before : (i : ℕ) → i < words → InLoop w (run g i v)
    found : run g words v ≡ after31 (along a (word_bytes + word_bytes)) false true j r

  reaches : {q i k j : ℕ} → Walk m r q i k j → (tic : Bool) (sense : Sense) (before : ℕ) (whole : Bool) (sel : Option Spot)
      → Reaches k j (at a tic q sense before whole i sel)
  unfolding run
  reaches {q = q} {i = i} {j = j} (here n e c l) tic sense before whole sel = record {
    words = 1;
    most = omega arith;
    before = first;
    found = finds tic q sense before whole i sel n j e c l;
  }
    where
      first : (y : ℕ) → y < 1 → InLoop w (run g y (at a tic q sense before whole i sel))
      first zero h = in_loop a tic q sense before whole i sel (inl refl)
      first (suc y) h = absurd (omega arith)
  reaches {q = q} {i = i} {k = suc k} {j = j} (on x n h e c l d y) tic sense before whole sel = go (reaches y true no_sense 0x31 false (Some x))
    where
      go : Reaches k j (after31 a true false h x) → Reaches (suc k) j (at a tic q sense before whole i sel)
      go R = record {
        words = suc (suc R.words);
        most = omega (arith, R.most);
        before = first;
        found = two tic q sense before whole i sel x n h e c l d R.words ∙ R.found;
      }
        where
          first : (z : ℕ) → z < suc (suc R.words) → InLoop w (run g z (at a tic q sense before whole i sel))
          first zero f = in_loop a tic q sense before whole i sel (inl refl)
          first (suc zero) f =
              subst (InLoop w) (sym (one tic q sense before whole i sel x n h e c l d 0))
              (in_loop (along a word_bytes) false (count_first x) no_sense 0x31 false h (Some x) (inr refl))
          first (suc (suc z)) f = subst (InLoop w) (sym (two tic q sense before whole i sel x n h e c l d z)) (R.before z (omega arith))

  lies : (x : Spot) → IsRecord t x → Lies m x
  unfolding spot_fits count_first
  lies R0 f = tt
  lies (Marker q) f =
      ((begun-marker t q f).0, omega (arith, spot_in t (record { long = S.loops.sound.long }) (Marker q) f, length-marks t, S.loops.sound.long), f)

  -- ---- from the place where it stands

  abbrev place : ℕ
  place = w.held.position.place

  abbrev passed : ℕ
  passed = pick (ltb place (count_first r)) 0 1

  -- what is held at its end
  is_found : after31 (along a (word_bytes + word_bytes)) false true passed r ≡ found_at w r
  unfolding found_held
  is_found = λ i. world
      (record {
        position = (found_held w.held r).position;
        orders = (found_held w.held r).orders;
        channel = record { going = S.loops.going i; key = w.held.channel.key; next = along a (word_bytes + word_bytes); after_tic = false };
      })
      w.storage w.cells

  comes_to_lem : Comes g w r
  comes_to_lem = record {
    words = R.words;
    most = omega (arith, R.most, way.2);
    allowed = omega (arith, R.most, way.2, marked_most m, length-marks t, S.loops.sound.long);
    before = R.before;
    found = ends;
    enough = λ n h.
        let z : R.words + (n - R.words) ≡ n = omega arith in
        ap (λ (k : ℕ). run g k w) (sym z) ∙ run_split g R.words (n - R.words) w ∙ ap (run g (n - R.words)) ends;
    by_go = λ n h p.
        let z : R.words + (n - R.words) ≡ n = omega arith in
        go_ran g n w p S.loops.going
        ∙ ap ran (ap (λ (k : ℕ). run g k w) (sym z) ∙ run_split g R.words (n - R.words) w ∙ ap (run g (n - R.words)) ends);
  }
    where
      way : Way m place r passed
      way = walk m place r (lies r S.there)

      R : Reaches way.0 passed w
      R =
          reaches (subst (λ (i : ℕ). Walk m r place i way.0 passed) (sym S.loops.tally) way.1) w.held.channel.after_tic w.held.position.sense
          w.held.orders.before w.held.orders.whole w.held.orders.selection

      ends : run g R.words w ≡ found_at w r
      ends = R.found ∙ is_found

-- ---- to what a write left

module _ (g : Shape) (w : World) (d : Word) (k : Write) (u : World) (r : Spot) (X : Left g w d k u r) where
  comes_again : (p flags : ℕ) → track_on g u ≡ track_on g w → Loops g u p flags → fetched u.storage (search_id p flags) ≡ id_sent (sent_at g w d k) → Comes g u r
  unfolding track_under under start_of
  comes_again p flags e L q =
      let T = subst (λ (m : ℕ). StillThere (track u.cells m) (sent_at g w d k) r) (sym e) (still_there g w d k u r X) in
      comes_to_lem g u p flags r (record { loops = L; there = T.there; sent = q ∙ sym T.named })

pub found : Found
found = record { comes = comes_to_lem; left = still_there; comes_to_it = λ g w d k u r p flags X. comes_again g w d k u r X p flags; met = met }
