-- The read of what was written, at its word: its turn gives what was sent, and the channel puts that where the word says. Why: the track under the head is
-- the one that the write left, and the read works where the write did.
use Prim.Native.Nat.{ℕ, ◌+◌, ◌*◌, ◌<◌, ◌≤◌, min}
use mathlib.Core.Path.{◌≡◌, refl, sym, ap, ◌∙◌, subst}
use mathlib.Core.Bool.{Bool, true, false, not}
use mathlib.Core.List.{List}
use native.Mathlib.Omega.{arith}
use lib.ListN.{length, get_or, take, length-take}
use lib.Seq.{get_or-take}
use lib.Dec.{lit<}
use borrow.Author.Tests.{not-true}
use Rattle.cells.specs.Cells.{pick, both, either, track_cells, marks}
use Rattle.words.specs.declared.{Word.Word, Directive.Directive, Cause.Cause}
use Rattle.words.specs.Words.{stored, status_for, status_bytes}
use Rattle.areas.specs.Areas.{home_area}
use Rattle.hunt.specs.Hunt.{count_first}
use Rattle.pack.specs.declared.{Shape.Shape}
use Rattle.pack.specs.Pack.{start_of, track_at}
use Rattle.held.specs.declared.{Position.Position, Orders.Orders}
use Rattle.table.specs.declared.{Names.Names, Write.Write}
use Rattle.table.specs.Table.{rule_of}
use Rattle.turn.specs.declared.{Ending.Ending}
use Rattle.turn.specs.Turn.{Tracks, Moves, given, Turn, report_of, lay}
use Rattle.command.specs.Command.{marks_of}
use Rattle.channel.specs.Channel.{fetched, placed, unit_status, goes_on, status_after, with_status, storage_after, World}
use Rattle.chain.specs.Step.{under, track_under, tracks_of, turn_of, settled, obeyed, step_by, step}
use Rattle.claim_track.specs.Lasting.{ReadsAs}
use Rattle.claim_box.specs.Confined.{in_status, track_on}
use Rattle.claim_box.proofs.Outside.{overlay_inside}
use Rattle.claim_box.proofs.NextWord.{stored-kept, placed_long}
use Rattle.claim_back.specs.Back.{Work, OnHome, OnRecord, OnNothing, taken_by, Sent, names_key, passes_key, counts_there, Rereads, names_passed, sent_at, asked_by, clear, no_data, Back}
use Rattle.claim_back.proofs.Plans.{NamesCount, record_plan, record_named, home_plan, home_named}
use Rattle.claim_back.proofs.Given.{Holds, Gave, record_gave, home_gave}
use Rattle.claim_back.proofs.Left.{area_inside, track-left, LeftIn, left_in}
use Rattle.claim_back.proofs.After.{track-kept}
use Rattle.std.specs.Prelude.{Result}

-- a read that names a key knows it, if it names none that was passed over
key_known : (n : Names) (N : NamesCount n) (p : Bool) → both (names_key n) p ≡ false → N.key ≡ true → not p ≡ true
unfolding names_key
key_known n N p e k = ap not (ap (λ (b : Bool). both b p) (sym (ap names_key N.is ∙ k)) ∙ e)

module _ (g : Shape) (w : World) (d : Word) (k : Write) (u : World) (e : Word) (counted : Bool) (R : Rereads g w d k u e counted) where
  abbrev left : List ℕ
  left = lay (turn_of g w d).lays (track_under g w)

  pub track_same : track_under g u ≡ left
  unfolding track_under under start_of
  track_same =
      ap (λ (m : ℕ). track_at u.cells (m * track_cells)) R.track ∙ (track-kept g (track_on g w) (step g w) u R.since).0
      ∙ track-left g w R.wrote.legal d R.wrote.word

  abbrev tr : Tracks
  tr = tracks_of g u.cells u.held.position.cylinder

  abbrev s : Position
  s = u.held.position

  abbrev o : Orders
  o = u.held.orders

  abbrev sent : Sent
  sent = sent_at g w d k

  module _ (knows : names_passed g w k e ≡ false) where
    abbrev Good : Turn → Type 0
    Good y = Gave (rule_of e.code).excepts sent (asked_by e counted sent) y

    gave_on : (z : Work) → taken_by (rule_of e.code).aim (marks (track_under g u)) s o ≡ z
        → LeftIn k (track_under g w) left w.held.orders.selection (fetched w.storage d) z → Good (turn_of g u e)
    unfolding turn_of track_under under tracks_of marks_of
    gave_on OnHome q H =
        home_gave g tr s o e.code (fetched u.storage e) _ (home_plan e.code counted R.act (marks_of tr) s o q) counted R.act
        (home_named e.code counted R.act (marks_of tr) s o q) sent H.1
        (subst (λ (t : List ℕ). ReadsAs t home_area sent.home) (sym track_same) H.0)
    gave_on (OnRecord spot) q H =
        let N : NamesCount (rule_of e.code).names = record_named e.code counted R.act (marks_of tr) s o spot q in
        let keyed : Bool = not (passes_key k (counts_there g w)) in
        record_gave g tr s o e.code (fetched u.storage e) _ (record_plan e.code counted R.act (marks_of tr) s o spot q) counted R.act
        N H.counts sent keyed (subst (λ (t : List ℕ). Holds t (count_first spot) H.counts sent keyed) (sym track_same) H.holds)
        (key_known (rule_of e.code).names N (passes_key k (counts_there g w)) knows)
    gave_on OnNothing q H = absurd H

    gave_again : Good (turn_of g u e)
    gave_again = gave_on _ R.takes (left_in g w d k R.wrote)

-- ---- the channel puts it there

module _ (st : List ℕ) (e : Word) (v : List ℕ) (room : e.address + e.count ≤ length st) where
  placed_at : (i : ℕ) → i < min e.count (length v) → get_or (placed st e v) (e.address + i) 0 ≡ get_or v i 0
  unfolding placed
  placed_at i h =
      overlay_inside st e.address (take e.count v) i (omega (arith, length-take e.count v, room)) (omega (arith, length-take e.count v))
      ∙ get_or-take e.count v i 0 (omega arith)

module _ (g : Shape) (w : World) (d : Word) (k : Write) (u : World) (e : Word) (counted : Bool) (R : Rereads g w d k u e counted)
    (knows : names_passed g w k e ≡ false) where
  abbrev v : List ℕ
  v = asked_by e counted (sent_at g w d k)

  abbrev x : Turn
  x = turn_of g u e

  room : e.address + e.count ≤ length u.storage
  room = area_inside g u R.legal e R.word

  -- storage with the bytes that the read gave
  abbrev put : List ℕ
  put = placed u.storage e (given x.moves)

  put_reaches : 72 ≤ length put
  put_reaches = omega (arith, placed_long u.storage e (given x.moves) room, R.legal.room)

  places : (i : ℕ) → i < min e.count (length v) → clear g u e i ≡ true → get_or (step g u).storage (e.address + i) 0 ≡ get_or v i 0
  unfolding step step_by obeyed settled storage_after with_status given
  places i h c =
      ap (λ (y : Result Directive Cause). get_or (step_by g u y).storage (e.address + i) 0) R.word ∙ go (goes_on e (report_of x)) c
      ∙ ap (λ (m : Moves). get_or (placed u.storage e (given m)) (e.address + i) 0) (gave_again g w d k u e counted R knows).moves
      ∙ placed_at u.storage e v room i h
    where
      go : (b : Bool) → either b (not (in_status (e.address + i))) ≡ true
          → get_or (pick b put (stored put (status_after u.held.channel e (report_of x)))) (e.address + i) 0 ≡ get_or put (e.address + i) 0
      go true q = refl
      go false q = stored-kept put _ (e.address + i) (omega (arith, put_reaches)) (not-true _ q)

  -- the status word is stored last, so its unit status stands there
  shown : goes_on e (report_of x) ≡ false → get_or (step g u).storage 68 0 ≡ pick (no_data e (sent_at g w d k)) 0x0D 0x0C
  unfolding step step_by obeyed settled storage_after with_status status_after status_for stored report_of unit_status
  shown q =
      ap (λ (y : Result Directive Cause). get_or (step_by g u y).storage 68 0) R.word
      ∙ ap (λ (b : Bool). get_or (pick b put (stored put (status_after u.held.channel e (report_of x)))) 68 0) q
      ∙ overlay_inside put 64 (status_bytes (status_after u.held.channel e (report_of x))) 4 (omega (arith, put_reaches)) (lit< tt)
      ∙ ap unit_status (gave_again g w d k u e counted R knows).ending ∙ by (no_data e (sent_at g w d k))
    where
      by : (b : Bool) → unit_status (pick b Ending.Exception Ending.Normal) ≡ pick b 0x0D 0x0C
      by true = refl
      by false = refl

  pub back : Back g u e (sent_at g w d k) (asked_by e counted (sent_at g w d k))
  back =
      let G = gave_again g w d k u e counted R knows in
      record { ending = G.ending; moves = G.moves; shown = shown; places = places }
