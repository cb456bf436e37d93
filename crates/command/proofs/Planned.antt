-- The plans that there are. A command is refused; or it had its licence and the mask let it through, and it works under the head where it stands: where it
-- is, at the home address, or on a record that is there.
use Prim.Native.Nat.{ℕ, ◌+◌, ◌≤◌}
use mathlib.Core.Path.{◌≡◌, refl, sym, ◌∙◌}
use mathlib.Core.Bool.{Bool, true, false, false≢true}
use mathlib.Core.List.{List}
use native.Mathlib.Omega.{arith}
use lib.Dec.{ltb}
use borrow.Author.Tests.{ltb-false}
use Rattle.cells.specs.Cells.{pick, both}
use Rattle.cells.proofs.Tests.{pick_all}
use Rattle.rows.specs.declared.{Row.Row}
use Rattle.table.specs.Table.{bars_seek, bars_write}
use Rattle.hunt.specs.declared.{Spot.Spot}
use Rattle.hunt.specs.Hunt.{spot_fits, count_first}
use Rattle.hunt.proofs.Inside.{NextOn, next_on, id_on}
use Rattle.held.specs.declared.{Position.Position, Orders.Orders}
use Rattle.table.specs.declared.{Bar.Bar, Aim.Aim, Rule.Rule}
use Rattle.command.specs.Command.{Marks, licensed, task, home_place, most_tally, SelectedOn, tallies, on_record, on_next, on_selected, to_next, to_served, aimed, unless_barred, plan_of}
use Rattle.std.specs.Prelude.{Some, None, Err, Ok, Option, Result}
use Rattle.command.specs.declared.{Task.Task}

-- ---- by its aim

unfoldable pub takes_record : Aim → Bool
takes_record Aim.Stays = false
takes_record Aim.HomeAddress = false
takes_record Aim.R0 = true
takes_record Aim.NextId = true
takes_record Aim.Next = true
takes_record Aim.NextForData = true
takes_record Aim.NextForKey = true
takes_record Aim.Selected = true

unfoldable pub is_r0 : Aim → Bool
is_r0 Aim.Stays = false
is_r0 Aim.HomeAddress = false
is_r0 Aim.R0 = true
is_r0 Aim.NextId = false
is_r0 Aim.Next = false
is_r0 Aim.NextForData = false
is_r0 Aim.NextForKey = false
is_r0 Aim.Selected = false

unfoldable pub is_selected : Aim → Bool
is_selected Aim.Stays = false
is_selected Aim.HomeAddress = false
is_selected Aim.R0 = false
is_selected Aim.NextId = false
is_selected Aim.Next = false
is_selected Aim.NextForData = false
is_selected Aim.NextForKey = false
is_selected Aim.Selected = true

-- the record that a command takes: R0 or the one selected, x, if that is its aim; one of the track, if x is
pub record Taken (m : List Bool) (x : Option Spot) (a : Aim) (spot : Spot) : Type 0 where
  pub fits : SelectedOn m x → spot_fits m spot ≡ true
  pub r0 : is_r0 a ≡ true → spot ≡ Spot.R0
  pub selected : is_selected a ≡ true → x ≡ Some spot

-- ---- the plans

pub data Planned (m : List Bool) (r : Rule) (s : Position) (x : Option Spot) (a : Aim) : Result Task Row → Type 0 where
  refuses : (row : Row) → Planned m r s x a (Err row)
  stays : a ≡ Aim.Stays → Planned m r s x a (Ok (task s.head s.place None 0))
  home : a ≡ Aim.HomeAddress → Planned m r s x a (Ok (task s.head home_place None 0))
  takes : (spot : Spot) → Taken m x a spot → (n : ℕ) → n ≤ most_tally
      → Planned m r s x a (Ok (task s.head (count_first spot) (pick r.selects (Some spot) None) n))

module _ (m : Marks) (r : Rule) (s : Position) (o : Orders) where
  abbrev Is : Option Spot → Aim → Result Task Row → Type 0
  Is x a p = Planned (m s.head) r s x a p

  record_is : (x : Option Spot) (a : Aim) (spot : Spot) (n : ℕ) → Taken (m s.head) x a spot → Is x a (on_record r o s.head spot n)
  unfolding on_record
  record_is x a spot n f = go (tallies r.act) (ltb most_tally (o.tally + n)) refl
    where
      go : (b c : Bool) → ltb most_tally (o.tally + n) ≡ c → Is x a
          (pick (both b c) (Err Row.SecondIndex) (Ok (task s.head (count_first spot) (pick r.selects (Some spot) None) (pick b (o.tally + n) 0))))
      go true true e = refuses _
      go true false e = takes spot f (o.tally + n) (omega (arith, ltb-false most_tally (o.tally + n) e))
      go false c e = takes spot f 0 (omega arith)

  module _ (a : Aim) (z : is_r0 a ≡ false) where
    selected_is : (x : Option Spot) (other : Result Task Row) → Is x a other → Is x a (on_selected r o s.head x other)
    unfolding on_selected SelectedOn
    selected_is None other k = k
    selected_is (Some spot) other k =
        record_is (Some spot) a spot 0 (record { fits = λ f. f; r0 = λ e. absurd (false≢true (sym z ∙ e)); selected = λ e. refl })

    module _ (q : is_selected a ≡ false) where
      next_is : (x : Option Spot) (y : Option (Spot × ℕ)) → NextOn (m s.head) y → Is x a (on_next r o s.head y)
      unfolding on_next
      next_is x (Some (spot, n)) f =
          record_is x a spot n (record { fits = λ i. f; r0 = λ e. absurd (false≢true (sym z ∙ e)); selected = λ e. absurd (false≢true (sym q ∙ e)) })
      next_is x None f = refuses _

      to_next_is : (x : Option Spot) → Is x a (to_next r m s o)
      unfolding to_next
      to_next_is x = next_is x _ (next_on (m s.head) s.place)

      served_is : (b : Bool) → Is o.selection a (to_served r m s o b)
      unfolding to_served
      served_is b = pick_all (Is o.selection a) b (selected_is o.selection _ (to_next_is _)) (to_next_is _)

  pub aimed_is : (a : Aim) → Planned (m s.head) r s o.selection a (aimed r m s o a)
  unfolding aimed is_r0 is_selected spot_fits
  aimed_is Aim.Stays = stays refl
  aimed_is Aim.HomeAddress = home refl
  aimed_is Aim.R0 = record_is _ Aim.R0 Spot.R0 0 (record { fits = λ i. refl; r0 = λ e. refl; selected = λ e. absurd (false≢true e) })
  aimed_is Aim.NextId = next_is Aim.NextId refl refl _ _ (id_on (m s.head) s.place)
  aimed_is Aim.Next = to_next_is Aim.Next refl refl _
  aimed_is Aim.NextForData = served_is Aim.NextForData refl refl _
  aimed_is Aim.NextForKey = served_is Aim.NextForKey refl refl _
  aimed_is Aim.Selected = selected_is Aim.Selected refl o.selection _ (refuses _)

-- ---- refused, or licensed, not barred, and where it aims

module _ (P : Result Task Row → Type 0) (no : (row : Row) → P (Err row)) where
  or_refused : (b : Bool) (row : Row) (x : Result Task Row) → (((p : Result Task Row) → pick b (Err row) p ≡ p) → P x) → P (pick b (Err row) x)
  or_refused true row x f = no row
  or_refused false row x f = f (λ p. refl)

  or_barred : (b : Bar) (n : ℕ) (x : Result Task Row) → (((p : Result Task Row) → unless_barred b n p ≡ p) → P x) → P (unless_barred b n x)
  unfolding unless_barred
  or_barred Bar.Nothing n x f = f (λ p. refl)
  or_barred (Bar.Seeks k) n x f = or_refused (bars_seek n k) Row.SeekBarred x f
  or_barred (Bar.Writes k) n x f = or_refused (bars_write n k) Row.WriteBarred x f

  pub permitted_or : (r : Rule) (m : Marks) (s : Position) (o : Orders)
      → (licensed r.licence o ≡ true → ((p : Result Task Row) → unless_barred r.bar o.mask p ≡ p) → P (aimed r m s o r.aim)) → P (plan_of r m s o)
  unfolding plan_of
  permitted_or r m s o f = go (licensed r.licence o) refl
    where
      go : (b : Bool) → licensed r.licence o ≡ b → P (pick b (unless_barred r.bar o.mask (aimed r m s o r.aim)) (Err Row.WrongBefore))
      go true e = or_barred r.bar o.mask _ (f e)
      go false e = no Row.WrongBefore

pub plan_is : (m : Marks) (r : Rule) (s : Position) (o : Orders) → Planned (m s.head) r s o.selection r.aim (plan_of r m s o)
plan_is m r s o = permitted_or (Planned (m s.head) r s o.selection r.aim) refuses r m s o (λ e q. aimed_is m r s o r.aim)
