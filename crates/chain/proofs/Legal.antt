-- A step leaves a legal world legal: no command moves the head off the pack, storage and pack keep their sizes, and what is selected is a record of the
-- track that is left.
use Prim.Native.Nat.{ℕ, ◌+◌, ◌≤◌}
use mathlib.Core.Path.{◌≡◌, refl, sym, ap, ◌∙◌, subst}
use mathlib.Core.Bool.{Bool, true, false}
use mathlib.Core.List.{List}
use native.Mathlib.Omega.{arith}
use lib.ListN.{length, length-take}
use Rattle.cells.specs.Cells.{pick, part, overlay, track_cells, marks}
use Rattle.cells.proofs.Laws.{length-overlay, part-overlay}
use Rattle.cells.proofs.Tests.{pick_all}
use Rattle.words.specs.declared.{Word.Word, Status.Status, Cause.Cause, Directive.Directive}
use Rattle.words.specs.Words.{AreaFits, stored, status_bytes, status_at}
use Rattle.words.proofs.Obeys.{TestedIn, tested_in}
use Rattle.pack.specs.declared.{Shape.Shape}
use Rattle.pack.specs.Pack.{start_of, track_at, with_track}
use Rattle.pack.proofs.Laws.{length-track, start_inside}
use Rattle.hunt.specs.Hunt as Hunt
use Rattle.held.specs.declared.{Position.Position, Held.Held}
use Rattle.held.specs.Held.{fresh, fresh_orders, fresh_channel, rested}
use Rattle.turn.specs.Turn.{Turn, given, report_of, lay}
use Rattle.channel.specs.Channel.{onward, stride, fetched, placed, goes_on, held_after, status_after, with_status, storage_after, World, world, stops, jumped}
use Rattle.table.specs.Table.{controls, searches, reads, writes, find, rule_of, is_mask}
use Rattle.command.proofs.Pieces.{length_laid}
use Rattle.chain.specs.Step.{under, track_under, next, tracks_of, lay_on, turn_of, settled, obeyed, step_by, step, position_fits, channel_fits, selection_fits, orders_fit, Legal}
use Rattle.chain.proofs.Fits.{position_on_lem, key_in, channel_fits_lem, held_fits_lem, standing, channeled, ordered}
use Rattle.chain.proofs.Left.{Left, Chosen, anywhere, here, command-left}
use Rattle.chain.proofs.Pack.{laid_on}
use Rattle.std.specs.Prelude.{Ok, Err, Result}
use Rattle.words.specs.declared.Directive.TheVariants.{Obey, Jump}

-- storage and pack of the sizes that they had
pub record Sizes (w v : World) : Type 0 where
  pub storage : length v.storage ≡ length w.storage
  pub cells : length v.cells ≡ length w.cells

length-stored : (s : List ℕ) (x : Status) → 80 ≤ length s → length (stored s x) ≡ length s
unfolding stored
length-stored s x h = length-overlay s status_at (status_bytes x) (omega arith)

length-placed : (s : List ℕ) (d : Word) (v : List ℕ) → AreaFits s d → length (placed s d v) ≡ length s
unfolding placed
length-placed s d v r = length-overlay s d.address _ (omega (arith, length-take d.count v, r.area))

-- a chain at its end
fresh_orders_lem : (m : List Bool) (s : Position) → orders_fit m (rested s).orders ≡ true
unfolding rested fresh fresh_orders orders_fit selection_fits is_mask rule_of find controls searches reads writes
fresh_orders_lem m s = refl

fresh_channel_lem : (s : Position) → channel_fits (rested s).channel ≡ true
unfolding rested fresh fresh_channel channel_fits
fresh_channel_lem s = refl

fresh_position_lem : (g : Shape) (s : Position) → position_fits g s ≡ true → position_fits g (rested s).position ≡ true
unfolding rested
fresh_position_lem g s e = e

module _ (g : Shape) (w : World) (L : Legal g w) where
  pub inside : under g w.held + track_cells ≤ length w.cells
  unfolding under
  inside = start_inside g _ _ (position_on_lem g w.held.position (standing g w L)) w.cells L.whole

  pub track_whole : Hunt.WholeTrack (track_under g w)
  unfolding track_under
  track_whole = record { long = length-track w.cells (under g w.held) inside }

  -- ---- a chain at its end is legal, a TIC too

  rests : (s : Position) → position_fits g s ≡ true → (st c : List ℕ) → length st ≡ length w.storage → length c ≡ length w.cells → Legal g (world (rested s) st c)
  rests s k st c l m = record {
    whole = record { cylinders = L.whole.cylinders; heads = L.whole.heads; count = m ∙ L.whole.count };
    room = omega (arith, L.room);
    held = held_fits_lem g _ (fresh_position_lem g s k) (fresh_channel_lem s) (fresh_orders_lem _ s);
  }

  stops_legal : (cause : Cause) → Legal g (stops w cause)
  unfolding stops
  stops_legal cause = rests w.held.position (standing g w L) _ _ (length-stored w.storage _ L.room) refl

  jumped_legal : (a : ℕ) → Legal g (world (jumped w.held a) w.storage w.cells)
  unfolding jumped under track_under
  jumped_legal a = record {
    whole = L.whole;
    room = L.room;
    held = held_fits_lem g _ (standing g w L) (channel_fits_lem _ (key_in w.held.channel (channeled g w L)) (omega arith)) (ordered g w L);
  }

  -- ---- a command

  module _ (d : Word) (x : Turn) (f : Left g w.held.position (track_under g w) x) (r : AreaFits w.storage d) where
    abbrev cells' : List ℕ
    cells' = lay_on g w.held.position.cylinder x.lays w.cells

    full : length (lay x.lays (track_under g w)) ≡ track_cells
    full = length_laid w.held.position.head x.lays (track_under g w) f.pieces track_whole.long

    pub put_back : cells' ≡ with_track w.cells (under g w.held) (lay x.lays (track_under g w))
    unfolding under track_under
    put_back = laid_on g w.held.position.cylinder w.held.position.head w.cells inside x.lays f.pieces

    kept_size : length cells' ≡ length w.cells
    unfolding with_track
    kept_size = ap length put_back ∙ length-overlay w.cells (under g w.held) _ (omega (arith, full, inside))

    -- the track is found again where it was put
    found_again : track_at cells' (under g w.held) ≡ lay x.lays (track_under g w)
    unfolding track_at with_track
    found_again =
        ap (λ (c : List ℕ). part c (under g w.held) track_cells) put_back
        ∙ ap (part (overlay w.cells (under g w.held) (lay x.lays (track_under g w))) (under g w.held)) (sym full)
        ∙ part-overlay w.cells (under g w.held) _ (omega (arith, full, inside))

    under_same : (h : Held) → h.position.cylinder ≡ w.held.position.cylinder → h.position.head ≡ w.held.position.head → under g h ≡ under g w.held
    unfolding under
    under_same h p q = λ i. start_of g (p i) (q i)

    fits_there : (h : Held) (st : List ℕ) → Chosen w.held.position h.position h.orders (lay x.lays (track_under g w))
        → orders_fit (marks (track_under g (world h st cells'))) h.orders ≡ true
    unfolding track_under
    fits_there h st (anywhere k) = k _
    fits_there h st (here p q k) =
        subst (λ (t : List ℕ). orders_fit (marks t) h.orders ≡ true) (sym (ap (track_at cells') (under_same h p q) ∙ found_again)) k

    abbrev on : Held
    on = record { position = x.position; orders = x.orders; channel = onward w.held.channel (stride x.ending) }

    onward-fits : (n : ℕ) → channel_fits (onward w.held.channel n) ≡ true
    unfolding onward
    onward-fits n = channel_fits_lem _ (key_in w.held.channel (channeled g w L)) (omega arith)

    abbrev st' : List ℕ
    st' = placed w.storage d (given x.moves)

    goes : Legal g (world on st' cells')
    goes = record {
      whole = record { cylinders = L.whole.cylinders; heads = L.whole.heads; count = kept_size ∙ L.whole.count };
      room = omega (arith, L.room, length-placed w.storage d (given x.moves) r);
      held = held_fits_lem g _ f.standing (onward-fits _) (fits_there on st' f.chosen);
    }

    ends_size : (y : Status) → length (stored st' y) ≡ length w.storage
    ends_size y =
        let e = length-placed w.storage d (given x.moves) r in
        length-stored st' y (omega (arith, L.room, e)) ∙ e

    settled_legal : Legal g (settled g w d x)
    unfolding settled held_after storage_after with_status report_of
    settled_legal = go (goes_on d (report_of x))
      where
        go : (b : Bool) → Legal g (world (pick b on (rested x.position)) (pick b st' (stored st' (status_after w.held.channel d (report_of x)))) cells')
        go true = goes
        go false = rests x.position f.standing _ _ (ends_size _) kept_size

    settled_sizes : Sizes w (settled g w d x)
    unfolding settled storage_after with_status
    settled_sizes = record {
      storage = pick_all (λ (z : List ℕ). length z ≡ length w.storage) (goes_on d (report_of x)) (length-placed w.storage d (given x.moves) r) (ends_size _);
      cells = kept_size;
    }

  pub turn-left : (d : Word) → Left g w.held.position (track_under g w) (turn_of g w d)
  unfolding turn_of track_under under tracks_of
  turn-left d =
      command-left g (tracks_of g w.cells w.held.position.cylinder) w.held.position w.held.orders d.code (fetched w.storage d)
      (standing g w L) track_whole (ordered g w L)

  takes_legal : (x : Result Directive Cause) → TestedIn w.storage x → Legal g (step_by g w x)
  unfolding step_by obeyed
  takes_legal (Ok (Obey d)) h = settled_legal d _ (turn-left d) (record { area = h })
  takes_legal (Ok (Jump a)) h = jumped_legal a
  takes_legal (Err cause) h = stops_legal cause

  pub step_legal : Legal g (step g w)
  unfolding step next
  step_legal = takes_legal _ (tested_in w.storage w.held.channel.next w.held.channel.after_tic)

  takes_sizes : (x : Result Directive Cause) → TestedIn w.storage x → Sizes w (step_by g w x)
  unfolding step_by obeyed stops
  takes_sizes (Ok (Obey d)) h = settled_sizes d _ (turn-left d) (record { area = h })
  takes_sizes (Ok (Jump a)) h = record { storage = refl; cells = refl }
  takes_sizes (Err cause) h = record { storage = length-stored w.storage _ L.room; cells = refl }

  pub step_sizes : Sizes w (step g w)
  unfolding step next
  step_sizes = takes_sizes _ (tested_in w.storage w.held.channel.next w.held.channel.after_tic)
