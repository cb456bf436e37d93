-- What refusal 4 asks, taken apart and put together again: each of its tests by itself.
use Prim.Native.Nat.{ℕ, ◌<◌, ◌≤◌}
use mathlib.Core.Path.{◌≡◌, ap}
use mathlib.Core.Bool.{Bool, true, not}
use mathlib.Core.List.{List}
use lib.Dec.{ltb, leb}
use borrow.Author.Tests.{ltb-true, leb-true, lt-ltb, le-leb}
use Rattle.cells.specs.Cells.{track_cells, marks}
use Rattle.cells.proofs.Tests.{first_of, second_of, both_of}
use Rattle.words.specs.Words.{addresses}
use Rattle.pack.specs.declared.{Shape.Shape}
use Rattle.pack.specs.Pack.{cylinder_on, head_on}
use Rattle.pack.specs.Pack as Tracks
use Rattle.command.specs.Command.{most_tally, SelectedOn}
use Rattle.command.proofs.Plans.{Leaves}
use Rattle.table.specs.Table.{rule_of, is_mask}
use Rattle.held.specs.declared.{Position.Position, Orders.Orders, Channel.Channel}
use Rattle.turn.specs.Turn.{orders_of}
use Rattle.channel.specs.Channel.{World}
use Rattle.chain.specs.Step.{track_under, keys, position_fits, channel_fits, selection_fits, orders_fit, held_fits, Legal}
use Rattle.std.specs.Prelude.{None, Some, Option}
use Rattle.hunt.specs.declared.{Spot.Spot}

-- ---- where the head stands

module _ (g : Shape) (s : Position) where
  pub position_on_lem : position_fits g s ≡ true → Tracks.OnPack g s.cylinder s.head
  unfolding position_fits
  position_on_lem e =
      let f = second_of (cylinder_on g s.cylinder) _ e in
      record { cylinder = ltb-true _ _ (first_of (cylinder_on g s.cylinder) _ e); head = ltb-true _ _ (first_of (head_on g s.head) _ f) }

  pub place_in : position_fits g s ≡ true → s.place ≤ track_cells
  unfolding position_fits
  place_in e = leb-true _ _ (second_of (head_on g s.head) _ (second_of (cylinder_on g s.cylinder) _ e))

  pub position_fits_lem : Tracks.OnPack g s.cylinder s.head → s.place ≤ track_cells → position_fits g s ≡ true
  unfolding position_fits
  position_fits_lem on p = both_of (lt-ltb _ _ on.cylinder) (both_of (lt-ltb _ _ on.head) (le-leb _ _ p))

-- ---- the channel's part

module _ (c : Channel) where
  pub key_in : channel_fits c ≡ true → c.key < keys
  unfolding channel_fits
  key_in e = ltb-true _ _ (first_of (ltb c.key keys) _ e)

  pub next_in : channel_fits c ≡ true → c.next < addresses
  unfolding channel_fits
  next_in e = ltb-true _ _ (second_of (ltb c.key keys) _ e)

  pub channel_fits_lem : c.key < keys → c.next < addresses → channel_fits c ≡ true
  unfolding channel_fits
  channel_fits_lem k n = both_of (lt-ltb _ _ k) (lt-ltb _ _ n)

-- ---- orders

selection_on : (m : List Bool) (o : Orders) (x : Option Spot) → selection_fits m o x ≡ true → SelectedOn m x
unfolding selection_fits SelectedOn
selection_on m o None e = tt
selection_on m o (Some spot) e = e

module _ (m : List Bool) (o : Orders) where
  pub mask_legal : orders_fit m o ≡ true → is_mask o.mask ≡ true
  unfolding orders_fit
  mask_legal e = first_of (is_mask o.mask) _ e

  pub tally_in : orders_fit m o ≡ true → o.tally ≤ most_tally
  unfolding orders_fit
  tally_in e = leb-true _ _ (first_of (leb o.tally most_tally) _ (second_of (is_mask o.mask) _ e))

  pub selected_on : orders_fit m o ≡ true → SelectedOn m o.selection
  unfolding orders_fit
  selected_on e = selection_on m o o.selection (second_of (leb o.tally most_tally) _ (second_of (is_mask o.mask) _ e))

-- what a command leaves: this code before the next, and nothing selected or a record of the track, by its row
leaves_fit : (m : List Bool) (o : Orders) (x : Option Spot) → Leaves m (rule_of o.before).selects x → selection_fits m o x ≡ true
unfolding selection_fits
leaves_fit m o None e = ap not e
leaves_fit m o (Some spot) e = e

pub ordered_fit : (m : List Bool) (mask : ℕ) (set : Bool) (code : ℕ) (whole : Bool) (tally : ℕ) (x : Option Spot)
    → is_mask mask ≡ true → tally ≤ most_tally → Leaves m (rule_of code).selects x → orders_fit m (orders_of mask set code whole tally x) ≡ true
unfolding orders_fit orders_of
ordered_fit m mask set code whole tally x l h k = both_of l (both_of (le-leb _ _ h) (leaves_fit m (orders_of mask set code whole tally x) x k))

-- ---- all of it

module _ (g : Shape) (w : World) where
  pub held_fits_lem : position_fits g w.held.position ≡ true → channel_fits w.held.channel ≡ true
      → orders_fit (marks (track_under g w)) w.held.orders ≡ true → held_fits g w ≡ true
  unfolding held_fits
  held_fits_lem p q r = both_of p (both_of q r)

  module _ (L : Legal g w) where
    pub standing : position_fits g w.held.position ≡ true
    unfolding held_fits
    standing = first_of (position_fits g w.held.position) _ L.held

    pub channeled : channel_fits w.held.channel ≡ true
    unfolding held_fits
    channeled = first_of (channel_fits w.held.channel) _ (second_of (position_fits g w.held.position) _ L.held)

    pub ordered : orders_fit (marks (track_under g w)) w.held.orders ≡ true
    unfolding held_fits
    ordered = second_of (channel_fits w.held.channel) _ (second_of (position_fits g w.held.position) _ L.held)
