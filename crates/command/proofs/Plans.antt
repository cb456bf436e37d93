-- Where a command works: under the head where it stands, at a place of the track, with a tally of at most 1; what it leaves selected is a record of the
-- track. What is selected is R0 or a marker, and so is what the hunt comes to.
use Prim.Native.Nat.{ℕ, ◌≤◌}
use mathlib.Core.Path.{◌≡◌, refl, sym, ap, ◌∙◌, subst}
use mathlib.Core.Bool.{Bool, true, false, not, false≢true}
use mathlib.Core.List.{List}
use native.Mathlib.Omega.{arith}
use borrow.Author.Tests.{not-true}
use Rattle.cells.specs.Cells.{pick, either, track_cells, marks}
use Rattle.hunt.specs.declared.{Spot.Spot}
use Rattle.hunt.specs.Hunt.{WholeTrack, spot_fits}
use Rattle.hunt.proofs.Inside.{spot_in}
use Rattle.held.specs.declared.{Position.Position, Orders.Orders}
use Rattle.table.specs.declared.{Aim.Aim, Rule.Rule}
use Rattle.turn.specs.Turn.{Tracks}
use Rattle.command.specs.declared.{Task.Task}
use Rattle.command.specs.Command.{Marks, marks_of, most_tally, SelectedOn, plan_of}
use Rattle.command.proofs.Planned.{takes_record, is_r0, Taken, Planned, refuses, stays, home, takes, plan_is}
use Rattle.std.specs.Prelude.{None, Some, Err, Ok, Option, Result}
use Rattle.rows.specs.declared.{Row.Row}

-- ---- what holds of a plan

-- a command that takes no record selects none
unfoldable pub selects_one : Aim → Bool → Bool
selects_one a b = either (takes_record a) (not b)

-- a record of the track left selected, by a command that selects
abbrev pub Leaves : List Bool → Bool → Option Spot → Type 0
Leaves m selects None = selects ≡ false
Leaves m selects (Some spot) = spot_fits m spot ≡ true

pub record TaskOn (m : List Bool) (r : Rule) (s : Position) (k : Task) : Type 0 where
  pub here : k.head ≡ s.head
  pub place : k.place ≤ track_cells
  pub tally : k.tally ≤ most_tally
  pub leaves : Leaves m r.selects k.selection

abbrev pub PlanOn : List Bool → Rule → Position → Result Task Row → Type 0
PlanOn m r s (Err row) = Unit {0}
PlanOn m r s (Ok k) = TaskOn m r s k

module _ (tr : Tracks) (r : Rule) (s : Position) (o : Orders) (wh : WholeTrack (tr s.head)) (sel : SelectedOn (marks (tr s.head)) o.selection)
    (p : s.place ≤ track_cells) (e : selects_one r.aim r.selects ≡ true) where
  abbrev t : List ℕ
  t = tr s.head

  picked : (b : Bool) (spot : Spot) → spot_fits (marks t) spot ≡ true → Leaves (marks t) b (pick b (Some spot) None)
  picked true spot h = h
  picked false spot h = refl

  planned_on : (x : Result Task Row) → Planned (marks t) r s o.selection r.aim x → PlanOn (marks t) r s x
  unfolding selects_one takes_record
  planned_on x (refuses row) = tt
  planned_on x (stays a) = record { here = refl; place = p; tally = omega arith; leaves = not-true r.selects (sym (ap (λ (b : Aim). selects_one b r.selects) a) ∙ e) }
  planned_on x (home a) = record { here = refl; place = omega arith; tally = omega arith; leaves = not-true r.selects (sym (ap (λ (b : Aim). selects_one b r.selects) a) ∙ e) }
  planned_on x (takes spot f n h) = record { here = refl; place = spot_in t wh spot (f.fits sel); tally = h; leaves = picked r.selects spot (f.fits sel) }

  pub plan_on : PlanOn (marks t) r s (plan_of r (marks_of tr) s o)
  unfolding marks_of
  plan_on = planned_on _ (plan_is (marks_of tr) r s o)

-- ---- a command that selects none, or takes R0, leaves no marker selected

abbrev pub NoMarker : Option Spot → Type 0
NoMarker None = Unit {0}
NoMarker (Some Spot.R0) = Unit {0}
NoMarker (Some (Spot.Marker p)) = ⊥

abbrev pub PlanFree : Result Task Row → Type 0
PlanFree (Err row) = Unit {0}
PlanFree (Ok k) = NoMarker k.selection

module _ (r : Rule) (m : Marks) (s : Position) (o : Orders) where
  pick_free : (b : Bool) (spot : Spot) → b ≡ false → NoMarker (pick b (Some spot) None)
  pick_free true spot e = absurd (false≢true (sym e))
  pick_free false spot e = tt

  r0_chosen : (b : Bool) → NoMarker (pick b (Some Spot.R0) None)
  r0_chosen true = tt
  r0_chosen false = tt

  planned_free : ((spot : Spot) → Taken (m s.head) o.selection r.aim spot → NoMarker (pick r.selects (Some spot) None))
      → (x : Result Task Row) → Planned (m s.head) r s o.selection r.aim x → PlanFree x
  planned_free f x (refuses row) = tt
  planned_free f x (stays a) = tt
  planned_free f x (home a) = tt
  planned_free f x (takes spot k n h) = f spot k

  pub none_free : not r.selects ≡ true → PlanFree (plan_of r m s o)
  none_free e = planned_free (λ spot k. pick_free r.selects spot (not-true r.selects e)) _ (plan_is m r s o)

  pub r0_free : is_r0 r.aim ≡ true → PlanFree (plan_of r m s o)
  r0_free e =
      planned_free (λ spot k. subst (λ (y : Spot). NoMarker (pick r.selects (Some y) None)) (sym (k.r0 e)) (r0_chosen r.selects)) _ (plan_is m r s o)
