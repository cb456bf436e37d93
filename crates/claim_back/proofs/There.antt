-- What a write left is a record of its track, with the ID that was sent, and stays one. Why: R0 needs no marker; 1D lays one; an update goes over no cell before
-- its areas, so its record's marker and count stand.
use Prim.Native.Nat.{ℕ, ◌+◌, ◌≤◌}
use mathlib.Core.Path.{◌≡◌, refl, sym, ap, ◌∙◌, subst}
use mathlib.Core.Bool.{Bool, false≢true}
use mathlib.Core.List.{List}
use native.Mathlib.Omega.{arith}
use lib.ListN.{get_or, take}
use Rattle.cells.specs.Cells.{marks}
use Rattle.cells.proofs.Marks.{get_or-marks, mark_here}
use Rattle.words.specs.declared.{Word.Word}
use Rattle.areas.specs.declared.{Counts.Counts}
use Rattle.areas.specs.Areas.{counts_at, record_cells, end_by}
use Rattle.hunt.specs.declared.{Spot.Spot}
use Rattle.hunt.specs.declared.Spot.TheVariants.{R0, Marker}
use Rattle.hunt.specs.Hunt.{count_first, spot_fits}
use Rattle.pack.specs.declared.{Shape.Shape}
use Rattle.table.specs.declared.{Write.Write}
use Rattle.table.specs.Table.{rule_of}
use Rattle.turn.specs.Turn.{is_check, lay}
use Rattle.command.specs.Command.{id_of, count_moved, SelectedOn}
use Rattle.channel.specs.Channel.{fetched, World}
use Rattle.chain.specs.Step.{track_under, turn_of}
use Rattle.chain.proofs.Fits.{selected_on, ordered}
use Rattle.sound.specs.Sound.{end_at}
use Rattle.claim_track.specs.Damage.{IsRecord}
use Rattle.claim_track.specs.Lasting.{ReadsBack, Took, Leaves, unchanged, written}
use Rattle.claim_track.proofs.Areas.{begun-marker}
use Rattle.claim_box.specs.Confined.{record_taken, track_on}
use Rattle.claim_box.specs.Demand3.{track}
use Rattle.claim_back.specs.Back.{Work, OnHome, OnRecord, OnNothing, selected, behind, left_by, Wrote, sent_at}
use Rattle.claim_back.specs.Found.{id_at, id_sent, Left, StillThere}
use Rattle.claim_back.proofs.Left.{track-left, before_both, leaves, cell_kept, left_in, LeftIn}
use Rattle.claim_back.proofs.After.{track-kept}
use Rattle.std.specs.Prelude.{Some, Option}

-- a marker that stands is a record
marked : (t : List ℕ) (p : ℕ) → 7 ≤ p → get_or t p 0 ≡ 512 → IsRecord t (Marker p)
unfolding spot_fits
marked t p h e = get_or-marks t p ∙ mark_here t p h e

-- there is a record, if this is one
abbrev ThereIn : List ℕ → Work → Type 0
ThereIn t OnHome = Unit {0}
ThereIn t (OnRecord r) = IsRecord t r
ThereIn t OnNothing = Unit {0}

module _ (g : Shape) (w : World) (d : Word) where
  abbrev t : List ℕ
  t = track_under g w

  abbrev t' : List ℕ
  t' = lay (turn_of g w d).lays t

  -- the record of an update
  kept_record : (key : Bool) → Wrote g w d (Write.Update key) → (spot : Spot) → w.held.orders.selection ≡ Some spot → IsRecord t spot → IsRecord t' spot
  unfolding spot_fits count_first record_taken
  kept_record key W R0 is B = refl
  kept_record key W (Marker q) is B =
      let m = begun-marker t q B in
      marked t' q m.0
      (cell_kept g w d (Write.Update key) W (Marker q) is refl q (before_both key (q + 1) (counts_at t (q + 1)) q (omega arith)) ∙ m.1)

  there_in : (k : Write) → Wrote g w d k → (spot : Spot) → Took k w.held.orders.selection spot
      → ReadsBack k (count_first spot) (fetched w.storage d) t t' → ThereIn t' (left_by k t w.held.orders.selection)
  unfolding Took ReadsBack left_by behind selected spot_fits
  there_in Write.HomeAddress W spot took B = tt
  there_in Write.R0 W spot took B = refl
  there_in Write.CountKeyData W spot took B =
      subst (λ (y : Option Spot). ThereIn t' (behind t y)) (sym took)
      (marked t' (end_at t (count_first spot)) (unfold end_by record_cells in omega arith) B.mark)
  there_in (Write.Update key) W spot took B =
      subst (λ (y : Option Spot). ThereIn t' (selected y)) (sym took)
      (kept_record key W spot took (unfold SelectedOn in subst (SelectedOn (marks t)) took (selected_on _ w.held.orders (ordered g w W.legal))))

  left_there : (k : Write) → Wrote g w d k → ThereIn t' (left_by k t w.held.orders.selection)
  unfolding is_check
  left_there k W = go (leaves g w d k W)
    where
      go : Leaves (rule_of d.code) k w.held.orders (fetched w.storage d) t (turn_of g w d) → ThereIn t' (left_by k t w.held.orders.selection)
      go (unchanged row e l) = absurd (false≢true (sym W.done ∙ ap is_check e))
      go (written P spot took n lasts back) = there_in k W spot took back

module _ (g : Shape) (w : World) (d : Word) (k : Write) (u : World) (r : Spot) (X : Left g w d k u r) where
  -- the track under the head when it was written
  is_left : track u.cells (track_on g w) ≡ lay (turn_of g w d).lays (track_under g w)
  is_left = (track-kept g (track_on g w) _ u X.since).0 ∙ track-left g w X.wrote.legal d X.wrote.word

  named_so : id_at (lay (turn_of g w d).lays (track_under g w)) r ≡ id_sent (sent_at g w d k)
  unfolding id_at id_of count_moved
  named_so =
      let H = subst (LeftIn k (track_under g w) (lay (turn_of g w d).lays (track_under g w)) w.held.orders.selection (fetched w.storage d)) X.is
      (left_in g w d k X.wrote) in
      ap (λ (n : Counts). take 5 (count_moved n)) H.holds.counts ∙ ap (take 5) H.holds.moved

  pub still_there : StillThere (track u.cells (track_on g w)) (sent_at g w d k) r
  still_there =
      subst (λ (t : List ℕ). StillThere t (sent_at g w d k) r) (sym is_left)
      (record { there = subst (ThereIn _) X.is (left_there g w d k X.wrote); named = named_so })
