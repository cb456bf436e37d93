-- A record that is selected, or come to, lies on the track; what a command does with the record selected; it sees one track.
use Prim.Native.Nat.{ℕ, ◌≤◌}
use mathlib.Core.Path.{◌≡◌, refl, sym, ap, ◌∙◌, subst}
use mathlib.Core.Bool.{Bool, true, false}
use mathlib.Core.List.{List}
use native.Mathlib.Omega.{arith}
use Rattle.cells.specs.Cells.{pick, track_cells, marks}
use Rattle.rows.specs.declared.{Row.Row}
use Rattle.hunt.specs.declared.{Spot.Spot}
use Rattle.hunt.specs.Hunt.{WholeTrack, count_first, spaced_to}
use Rattle.hunt.proofs.Inside.{NextOn, next_in, spot_in}
use Rattle.held.specs.declared.{Position.Position, Orders.Orders}
use Rattle.command.specs.Command.{SelectedOn, Marks, marks_of, licensed, to_next, to_served, aimed, unless_barred, plan_of}
use Rattle.task.specs.Inside.{selected_place, unbarred}
use Rattle.table.specs.declared.{Aim.Aim, Bar.Bar, Rule.Rule}
use Rattle.table.specs.Table.{bars_seek, bars_write}
use Rattle.turn.specs.Turn.{Tracks, alone}
use Rattle.std.specs.Prelude.{Some, None, Ok, Err, Option, Result}
use Rattle.std.specs.Result.{IsErrAnd}
use Rattle.std.proofs.lemmas.Result.{err_from_is_err_and}
use Rattle.command.specs.declared.{Task.Task}

module _ (t : List ℕ) (w : WholeTrack t) where
  pub next_place : (x y : Option (Spot × ℕ)) → x ≡ y → NextOn (marks t) y → spaced_to x ≤ track_cells
  next_place x y e h = next_in t w x (subst (NextOn (marks t)) (sym e) h)

  pub selected_place_lem : (x : Option Spot) → SelectedOn (marks t) x → selected_place x ≤ track_cells
  unfolding SelectedOn selected_place
  selected_place_lem None h = omega arith
  selected_place_lem (Some spot) h = spot_in t w spot h

  pub selected_on : (x : Option Spot) (spot : Spot) → x ≡ Some spot → SelectedOn (marks t) x → count_first spot ≤ track_cells
  unfolding selected_place
  selected_on x spot e h = subst (λ (y : Option Spot). selected_place y ≤ track_cells) e (selected_place_lem x h)

-- ---- what is aimed at, unless the mask bars it

unfoldable unless : Result (Unit {0}) Row → Result Task Row → Result Task Row
unless (Ok u) x = x
unless (Err row) x = Err row

bars_first : (b : Bar) (m : ℕ) (x : Result Task Row) → unless (unbarred b m) x ≡ unless_barred b m x
unfolding unless unbarred unless_barred
bars_first Bar.Nothing m x = refl
bars_first (Bar.Seeks k) m x = go (bars_seek m k)
  where
    go : (t : Bool) → unless (pick t (Err Row.SeekBarred) (Ok tt)) x ≡ pick t (Err Row.SeekBarred) x
    go true = refl
    go false = refl
bars_first (Bar.Writes k) m x = go (bars_write m k)
  where
    go : (t : Bool) → unless (pick t (Err Row.WriteBarred) (Ok tt)) x ≡ pick t (Err Row.WriteBarred) x
    go true = refl
    go false = refl

module _ (r : Rule) (m : Marks) (s : Position) (o : Orders) (l : licensed r.licence o ≡ true) (b : Result (Unit {0}) Row) (q : b ≡ unbarred r.bar o.mask)
    (g : Result Task Row) where
  planned : unless b (aimed r m s o r.aim) ≡ plan_of r m s o
  unfolding plan_of
  planned =
      ap (λ (x : Result (Unit {0}) Row). unless x (aimed r m s o r.aim)) q ∙ bars_first r.bar o.mask (aimed r m s o r.aim)
      ∙ ap (λ (x : Bool). pick x (unless_barred r.bar o.mask (aimed r m s o r.aim)) (Err Row.WrongBefore)) (sym l)

  pub plan_barred : (row : Row) → b ≡ Err row → IsErrAnd g (λ z. z ≡ row) → g ≡ plan_of r m s o
  unfolding unless
  plan_barred row e w =
      let f = err_from_is_err_and g w in
      f.1 ∙ ap Err f.2 ∙ ap (λ (x : Result (Unit {0}) Row). unless x (aimed r m s o r.aim)) (sym e) ∙ planned

  pub plan_aimed : (u : Unit {0}) → b ≡ Ok u → g ≡ aimed r m s o r.aim → g ≡ plan_of r m s o
  unfolding unless
  plan_aimed u e w = w ∙ ap (λ (x : Result (Unit {0}) Row). unless x (aimed r m s o r.aim)) (sym e) ∙ planned

-- ---- of the cylinder only the track under the head is seen

aimed_on : (r : Rule) (t : Tracks) (s : Position) (o : Orders) (a : Aim) → aimed r (marks_of t) s o a ≡ aimed r (marks_of (alone (t s.head))) s o a
unfolding aimed to_served to_next marks_of
aimed_on r t s o Aim.Stays = refl
aimed_on r t s o Aim.HomeAddress = refl
aimed_on r t s o Aim.R0 = refl
aimed_on r t s o Aim.NextId = refl
aimed_on r t s o Aim.Next = refl
aimed_on r t s o Aim.NextForData = refl
aimed_on r t s o Aim.NextForKey = refl
aimed_on r t s o Aim.Selected = refl

pub plans_on : (r : Rule) (t : Tracks) (s : Position) (o : Orders) → plan_of r (marks_of t) s o ≡ plan_of r (marks_of (alone (t s.head))) s o
unfolding plan_of
plans_on r t s o =
    ap (λ (x : Result Task Row). pick (licensed r.licence o) (unless_barred r.bar o.mask x) (Err Row.WrongBefore)) (aimed_on r t s o r.aim)
