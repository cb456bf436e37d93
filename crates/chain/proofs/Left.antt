-- What a command leaves: a place on the pack; orders that fit the track that is left; pieces that lie on the track under the head.
use Prim.Native.Nat.{ℕ, suc, ◌+◌, ◌<◌, ◌≤◌}
use mathlib.Core.Path.{◌≡◌, refl, sym, ap, ◌∙◌, subst}
use mathlib.Core.Bool.{Bool, true, false, not}
use mathlib.Core.List.{List, [], ◌∷◌, ◌++◌}
use native.Mathlib.Nat.{add-zero}
use native.Mathlib.Omega.{arith}
use lib.ListN.{length, get_or}
use lib.Dec.{ltb}
use borrow.Author.Tests.{not-true}
use Rattle.cells.specs.Cells.{pick, both, padded, track_cells, marker, marks}
use Rattle.cells.proofs.Marks.{get_or-marks, mark_here}
use Rattle.cells.proofs.Tests.{pick_all, first_of, second_of}
use Rattle.rows.specs.declared.{Row.Row}
use Rattle.house_check.specs.Check as House
use Rattle.areas.specs.declared.{Counts.Counts}
use Rattle.areas.specs.Areas.{home_bytes, r0_first, key_area, data_area, record_cells, end_by, needed}
use Rattle.hunt.specs.declared.{Spot.Spot}
use Rattle.hunt.specs.Hunt.{WholeTrack, spot_fits, space_record}
use Rattle.pack.specs.declared.{Head.Head, Shape.Shape, Cylinder.Cylinder}
use Rattle.hunt.proofs.Inside.{space_in}
use Rattle.room.specs.Room.{fits}
use Rattle.room.proofs.Laws.{fits_ends}
use Rattle.pack.proofs.Seeks.{SoughtOn, seek_to_on, seek_head_on}
use Rattle.held.specs.declared.{Position.Position, Orders.Orders}
use Rattle.turn.specs.declared.{Ending.Ending}
use Rattle.turn.specs.declared.Ending.TheVariants.{Normal}
use Rattle.turn.specs.Turn.{position_at, with_sense, position_sought, after, Tracks, TrackArea, Piece, Moves, Takes, Turn, lay, check_turn}
use Rattle.format.specs.Format.{new_counts, new_record}
use Rattle.format.proofs.Laws.{formatted, length-area, length-new, formatted_inside}
use Rattle.command.specs.Command.{most_tally, named, Marks, marks_of, plan_of, Sight, sight, all_recorded, goes_over, writes_over, fail_turn, position_after, orders_after, end_turn_at, end_turn, ending_of, no_op_turn, sense_turn, sought_by, addressed, arrival_turn, seek_turn, masked_turn, mask_turn, spaced_place, space_turn, field_turn, search_turn, read_turn, piece, to_end, home_turn, record_takes, new_turn, r0_turn, record_turn, over_piece, key_sent, update_turn, control_turn, write_turn, act_turn, job_of, has_read, ready_by, ready_turn, rule_turn, command, task}
use Rattle.command.specs.declared.{Task.Task, Job.Job}
use Rattle.table.specs.declared.{Control.Control, Write.Write, Act.Act, Rule.Rule, Seeking.Seeking}
use Rattle.table.specs.Table.{rule_of, is_home, controls, searches, reads, writes, is_mask}
use Rattle.table.proofs.Laws.{every, each, of_every}
use Rattle.command.proofs.Planned.{takes_record, is_r0}
use Rattle.command.proofs.Plans.{selects_one, Leaves, NoMarker, TaskOn, PlanOn, PlanFree, plan_on, none_free, r0_free}
use Rattle.command.proofs.Pieces.{PiecesOn, length-to_end, format_is, update_on}
use Rattle.chain.specs.Step.{position_fits, orders_fit}
use Rattle.chain.proofs.Fits.{position_on_lem, place_in, position_fits_lem, mask_legal, selected_on, ordered_fit}
use Rattle.std.specs.Prelude.{Ok, Err, None, Some, Option, Result}

-- ---- what the table's rows have in common

-- a control command selects nothing; a write but 1D leaves no marker selected
unfoldable steady_write : Write → Rule → Bool
steady_write Write.HomeAddress r = not r.selects
steady_write Write.R0 r = is_r0 r.aim
steady_write Write.CountKeyData r = true
steady_write (Write.Update key) r = not r.selects

unfoldable steady : Act → Rule → Bool
steady (Act.Control a) r = not r.selects
steady (Act.Search h) r = true
steady (Act.Read c) r = true
steady (Act.Write w) r = steady_write w r

unfoldable tame : Rule → Bool
tame r = both (selects_one r.aim r.selects) (steady r.act r)

tame_rule : (c : ℕ) → tame (rule_of c) ≡ true
unfolding tame selects_one takes_record steady steady_write is_r0 every each controls searches reads writes
tame_rule c = of_every tame refl c

-- what is selected where a command acts, by what it does
abbrev WriteFree : Write → Option Spot → Type 0
WriteFree Write.HomeAddress y = NoMarker y
WriteFree Write.R0 y = NoMarker y
WriteFree Write.CountKeyData y = Unit {0}
WriteFree (Write.Update key) y = NoMarker y

abbrev ActFree : Act → Option Spot → Type 0
ActFree (Act.Control a) y = NoMarker y
ActFree (Act.Search h) y = Unit {0}
ActFree (Act.Read c) y = Unit {0}
ActFree (Act.Write w) y = WriteFree w y

abbrev OnPlan : (Option Spot → Type 0) → Result Task Row → Type 0
OnPlan P (Err row) = Unit {0}
OnPlan P (Ok k) = P k.selection

-- if no marker is, or whatever is
free_plan : (p : Result Task Row) → PlanFree p → OnPlan NoMarker p
free_plan (Err row) h = tt
free_plan (Ok k) h = h

any_plan : (p : Result Task Row) → OnPlan (λ y. Unit {0}) p
any_plan (Err row) = tt
any_plan (Ok k) = tt

write_free : (r : Rule) (m : Marks) (s : Position) (o : Orders) (w : Write) → steady_write w r ≡ true → OnPlan (WriteFree w) (plan_of r m s o)
unfolding steady_write
write_free r m s o Write.HomeAddress e = free_plan (plan_of r m s o) (none_free r m s o e)
write_free r m s o Write.R0 e = free_plan (plan_of r m s o) (r0_free r m s o e)
write_free r m s o Write.CountKeyData e = any_plan (plan_of r m s o)
write_free r m s o (Write.Update key) e = free_plan (plan_of r m s o) (none_free r m s o e)

act_free : (r : Rule) (m : Marks) (s : Position) (o : Orders) (a : Act) → steady a r ≡ true → OnPlan (ActFree a) (plan_of r m s o)
unfolding steady
act_free r m s o (Act.Control a) e = free_plan (plan_of r m s o) (none_free r m s o e)
act_free r m s o (Act.Search h) e = any_plan (plan_of r m s o)
act_free r m s o (Act.Read c) e = any_plan (plan_of r m s o)
act_free r m s o (Act.Write w) e = write_free r m s o w e

-- ---- what is left

-- orders that fit any track, or the track that is left, where the head has not moved
pub data Chosen (s s' : Position) (o : Orders) (t : List ℕ) : Type 0 where
  anywhere : ((m : List Bool) → orders_fit m o ≡ true) → Chosen s s' o t
  here : s'.cylinder ≡ s.cylinder → s'.head ≡ s.head → orders_fit (marks t) o ≡ true → Chosen s s' o t

pub record Left (g : Shape) (s : Position) (t : List ℕ) (x : Turn) : Type 0 where
  pub standing : position_fits g x.position ≡ true
  pub pieces : PiecesOn s.head x.lays
  pub chosen : Chosen s x.position x.orders (lay x.lays t)

module _ (g : Shape) (tr : Tracks) (s : Position) (o : Orders) (code : ℕ) (v : List ℕ)
    (ok : position_fits g s ≡ true) (wh : WholeTrack (tr s.head)) (fit : orders_fit (marks (tr s.head)) o ≡ true) where
  abbrev t : List ℕ
  t = tr s.head

  abbrev Fine : Turn → Type 0
  Fine x = Left g s t x

  checks_left : (l : List TrackArea) (row : Row) → Fine (check_turn s o l row)
  unfolding check_turn with_sense position_at lay
  checks_left l row = record {
    standing = position_fits_lem g _ (position_on_lem g s ok) (place_in g s ok);
    pieces = tt;
    chosen = here refl refl fit;
  }

  module _ (r : Rule) (same : r.selects ≡ (rule_of code).selects) (k : Task) (n : Counts) (on : TaskOn (marks t) r s k) where
    abbrev j : Job
    j = job_of code r s o k n

    abbrev x : Sight
    x = sight tr j v

    fails_left : (row : Row) → Fine (fail_turn x row)
    unfolding fail_turn sight
    fails_left row = checks_left _ row

    -- at a place of the track, what is selected fits the track that is left
    ends_left : (k' : Task) (e : Ending) (m : Moves) (l : List Piece) (whole : Bool) → k'.head ≡ s.head → k'.place ≤ track_cells → k'.tally ≤ most_tally
        → PiecesOn s.head l → Leaves (marks (lay l t)) r.selects k'.selection → Fine (end_turn_at x k' e m l whole)
    unfolding end_turn_at position_after position_at orders_after after sight
    ends_left k' e m l whole h p q on_track_lem sel =
        let there = position_on_lem g s ok in
        record {
          standing = position_fits_lem g _ (record { cylinder = there.cylinder; head = subst (λ z. z.0 < g.heads) (sym h) there.head }) p;
          pieces = on_track_lem;
          chosen = here refl h (ordered_fit _ o.mask o.mask_set code whole k'.tally k'.selection (mask_legal _ o fit) q
              (subst (λ (b : Bool). Leaves (marks (lay l t)) b k'.selection) same sel));
        }

    rests_left : (e : Ending) (m : Moves) (whole : Bool) → Fine (end_turn x e m [] whole)
    unfolding end_turn sight lay
    rests_left e m whole = ends_left k e m [] whole on.here on.place on.tally tt on.leaves

    -- ---- control

    -- no marker is selected: it fits whatever track is left
    free_leaves : (m : List Bool) (y : Option Spot) → NoMarker y → Leaves (marks t) r.selects y → Leaves m r.selects y
    unfolding spot_fits
    free_leaves m None f h = h
    free_leaves m (Some Spot.R0) f h = refl
    free_leaves m (Some (Spot.Marker p)) f h = absurd f

    arrives_left : (a : Result (Cylinder × Head) Row) → SoughtOn g a → NoMarker k.selection → Fine (arrival_turn x a)
    unfolding arrival_turn position_sought position_at orders_after after sight
    arrives_left (Ok (c, h)) there free = record {
      standing = position_fits_lem g _ there (omega arith);
      pieces = tt;
      chosen = anywhere (λ m. ordered_fit m o.mask o.mask_set code false k.tally k.selection (mask_legal _ o fit) on.tally
          (subst (λ (b : Bool). Leaves m b k.selection) same (free_leaves m k.selection free on.leaves)));
    }
    arrives_left (Err row) there free = fails_left row

    sought_on : (q : Seeking) → SoughtOn g (sought_by g q s.cylinder v)
    unfolding sought_by
    sought_on Seeking.Seek = seek_to_on g _ _ _
    sought_on Seeking.SeekCylinder = seek_to_on g _ _ _
    sought_on Seeking.SeekHead = seek_head_on g s.cylinder (position_on_lem g s ok).cylinder _

    addressed_on : (q : Seeking) → SoughtOn g (addressed g q s.cylinder v)
    unfolding addressed
    addressed_on q = pick_all (SoughtOn g) (ltb (length v) 6) {x = Err Row.BadSeek} tt (sought_on q)

    masks_left : (byte : ℕ) → r.selects ≡ false → Fine (mask_turn x byte)
    unfolding mask_turn masked_turn position_after position_at sight
    masks_left byte none = go (is_mask byte) refl
      where
        go : (b : Bool) → is_mask byte ≡ b → Fine (pick b (pick o.mask_set (fail_turn x Row.SecondMask) (masked_turn x byte)) (fail_turn x Row.BadMask))
        go true e =
            let there = position_on_lem g s ok in
            pick_all Fine o.mask_set (fails_left Row.SecondMask)
            (record {
              standing = position_fits_lem g _ (record { cylinder = there.cylinder; head = subst (λ z. z.0 < g.heads) (sym on.here) there.head }) on.place;
              pieces = tt;
              chosen = anywhere (λ m. ordered_fit m byte true code false 0 None e (omega arith) (sym same ∙ none));
            })
        go false e = fails_left Row.BadMask

    spaces_left : r.selects ≡ false → Fine (space_turn x)
    unfolding space_turn spaced_place sight lay
    spaces_left none =
        let b : Bool = is_home (rule_of o.before).aim in
        ends_left _ Normal _ [] false on.here
        (subst (λ (h : Head). space_record (marks (tr h)) s.place b ≤ track_cells) (sym on.here) (space_in t s.place b wh)) (omega arith) tt none

    does_left : (a : Control) → r.selects ≡ false → NoMarker k.selection → Fine (control_turn g a x)
    unfolding control_turn no_op_turn sense_turn seek_turn sight
    does_left Control.Unknown none free = fails_left Row.UnknownCode
    does_left Control.NoOp none free = rests_left Normal _ false
    does_left Control.Sense none free = rests_left Normal _ false
    does_left (Control.Seek q) none free = arrives_left _ (addressed_on q) free
    does_left Control.SetMask none free = masks_left _ none
    does_left Control.SpaceRecord none free = spaces_left none

    -- ---- writes

    home_left_lem : NoMarker k.selection → Fine (home_turn x)
    unfolding home_turn end_turn piece sight
    home_left_lem free =
        ends_left k Normal _ _ false on.here on.place on.tally
        (on.here, length-to_end 0 (House.cells_with_check (padded home_bytes v)) (omega (arith, length-area home_bytes v)), tt) (free_leaves _ k.selection free on.leaves)

    new-left : (k' : Task) (first : ℕ) (c : Counts) (need : ℕ) (w : List ℕ) → k'.head ≡ s.head → k'.tally ≤ most_tally → length w ≡ need
        → (fits first need ≡ true → k'.place ≤ track_cells)
        → (fits first need ≡ true → Leaves (marks (lay (piece x first (to_end first w) ∷ []) t)) r.selects k'.selection)
        → Fine (new_turn x k' first c need w)
    unfolding new_turn piece sight
    new-left k' first c need w h q long place leaves = go (fits first need) refl
      where
        go : (b : Bool) → fits first need ≡ b
            → Fine (pick b (end_turn_at x k' Normal (Takes (record_takes x.sent c)) (piece x first (to_end first w) ∷ []) false) (fail_turn x Row.NoRoom))
        go true e =
            ends_left k' Normal _ _ false h (place e) q (pieces_on (omega (arith, long, fits_ends first need e))) (leaves e)
          where
            pieces_on : first + length w ≤ track_cells → PiecesOn s.head (piece x first (to_end first w) ∷ [])
            pieces_on inside = (on.here, length-to_end first w inside, tt)
        go false e = fails_left Row.NoRoom

    r0_left_lem : NoMarker k.selection → (flag : ℕ) → Fine (r0_turn x flag)
    unfolding r0_turn sight
    r0_left_lem free flag =
        new-left k r0_first (new_counts flag v) (record_cells (new_counts flag v)) (new_record flag v) on.here on.tally (length-new flag v) (λ e. on.place)
        (λ e. free_leaves _ k.selection free on.leaves)

    -- the new marker is one of the track's
    new_mark : (at : ℕ) (w : List ℕ) → 7 ≤ at → at + suc (length w) ≤ track_cells
        → get_or (marks (lay (piece x at (to_end at (marker ∷ w)) ∷ []) t)) at false ≡ true
    unfolding lay piece sight
    new_mark at w h inside =
        let same_track = format_is t at (marker ∷ w) wh.long inside in
        ap (λ (z : List ℕ). get_or (marks z) at false) same_track
        ∙ get_or-marks (formatted t at (marker ∷ w)) at
        ∙ mark_here (formatted t at (marker ∷ w)) at h
        (ap (λ (i : ℕ). get_or (formatted t at (marker ∷ w)) i 0) (sym (add-zero at)) ∙ formatted_inside t at (marker ∷ w) (omega (arith, wh.long)) 0 (omega arith))

    record_left_lem : (at flag : ℕ) → 7 ≤ at → Fine (record_turn x at flag)
    unfolding record_turn needed sight spot_fits
    record_left_lem at flag h =
        new-left (task k.head (at + 1) (Some (Spot.Marker at)) 0) at (new_counts flag v) (1 + record_cells (new_counts flag v)) (marker ∷ new_record flag v)
        on.here (omega arith) (ap suc (length-new flag v) ∙ omega arith) (λ e. omega (arith, fits_ends at _ e))
        (λ e. new_mark at (new_record flag v) h (omega (arith, length-new flag v, fits_ends at (1 + record_cells (new_counts flag v)) e)))

    update_left : (key : Bool) → r.act ≡ Act.Write (Write.Update key) → NoMarker k.selection → Fine (update_turn key x k.place n)
    unfolding update_turn sight goes_over writes_over end_turn
    update_left key act free = go x.recorded refl
      where
        go : (b : Bool) → x.recorded ≡ b → Fine (pick b
            (end_turn_at x k (ending_of j) (Takes (key_sent key n + n.dl))
            (over_piece x (key_area k.place n) 0 (key_sent key n) ++ over_piece x (data_area k.place n) (key_sent key n) n.dl) false)
            (fail_turn x Row.Unreadable))
        go true e =
            let rec : all_recorded t (named k.place key true n) ≡ true =
            (λ i. all_recorded (tr (sym on.here i)) (goes_over (sym act i) k.place n)) ∙ e in
            ends_left k _ _ _ false on.here on.place on.tally
            (update_on x s.head t key k.place n on.here wh.long rec) (free_leaves _ k.selection free on.leaves)
        go false e = fails_left Row.Unreadable

    lays_left : (w : Write) → r.act ≡ Act.Write w → WriteFree w k.selection → Fine (write_turn w x)
    unfolding write_turn sight end_by record_cells
    lays_left Write.HomeAddress act free = home_left_lem free
    lays_left Write.R0 act free = r0_left_lem free _
    lays_left Write.CountKeyData act free = record_left_lem _ _ (omega arith)
    lays_left (Write.Update key) act free = update_left key act free

    -- ---- all of them

    acts_left : (a : Act) → r.act ≡ a → steady a r ≡ true → ActFree a k.selection → Fine (act_turn g a x)
    unfolding act_turn steady search_turn field_turn read_turn sight
    acts_left (Act.Control a) act e free = does_left a (not-true r.selects e) free
    acts_left (Act.Search h) act e free = rests_left _ _ _
    acts_left (Act.Read c) act e free = rests_left _ _ _
    acts_left (Act.Write w) act e free = lays_left w act free

  module _ (r : Rule) (same : r.selects ≡ (rule_of code).selects) (tm : tame r ≡ true) where
    read_left : (l : List TrackArea) (k : Task) (y : Result Counts Row) → TaskOn (marks t) r s k → ActFree r.act k.selection
        → Fine (ready_turn g tr s o v l (has_read code r s o k y))
    unfolding ready_turn has_read tame
    read_left l k (Ok n) on free = acts_left r same k n on r.act refl (second_of (selects_one r.aim r.selects) _ tm) free
    read_left l k (Err row) on free = checks_left l row

    plan_left : (l : List TrackArea) (p : Result Task Row) → PlanOn (marks t) r s p → OnPlan (ActFree r.act) p → Fine (ready_turn g tr s o v l (ready_by tr code r s o p))
    unfolding ready_turn ready_by
    plan_left l (Err row) on free = checks_left l row
    plan_left l (Ok k) on free = read_left l k _ on free

    obeys_left : Fine (rule_turn g tr code r s o v)
    unfolding rule_turn tame
    obeys_left =
        plan_left _ (plan_of r (marks_of tr) s o)
        (plan_on tr r s o wh (selected_on _ o fit) (place_in g s ok) (first_of (selects_one r.aim r.selects) _ tm))
        (act_free r (marks_of tr) s o r.act (second_of (selects_one r.aim r.selects) _ tm))

  pub command-left : Left g s (tr s.head) (command g tr s o code v)
  unfolding command
  command-left = obeys_left (rule_of code) refl (tame_rule code)
