-- Today a command works under the head where it stands: it sees no other track of the cylinder, and lays no cell there. Why: every plan's task has that
-- head, and a plan sees of a cylinder what is under its head.
use Prim.Native.Nat.{ℕ}
use mathlib.Core.Path.{◌≡◌, refl, sym, ap, ◌∙◌, subst}
use mathlib.Core.Bool.{Bool}
use mathlib.Core.List.{List, [], ◌∷◌}
use Rattle.cells.specs.Cells.{pick}
use Rattle.rows.specs.declared.{Row.Row}
use Rattle.areas.specs.declared.{Area.Area}
use Rattle.areas.specs.Areas.{area_cells, home_area, count_area, read_count}
use Rattle.pack.specs.declared.{Head.Head, Shape.Shape}
use Rattle.held.specs.declared.{Position.Position, Orders.Orders}
use Rattle.command.specs.Command.{named_by, Marks, marks_of, licensed, to_next, to_served, aimed, unless_barred, plan_of, on_head, areas_of, plan_reads, rule_turn, command}
use Rattle.table.specs.declared.{Aim.Aim, Names.Names, Rule.Rule}
use Rattle.table.specs.Table.{rule_of}
use Rattle.turn.specs.Turn.{Tracks, alone, TrackArea}
use Rattle.command.proofs.Planned.{Planned, refuses, stays, home, takes, plan_is}
use Rattle.command.specs.Frame.{AllSame, plan_head, ReadsUnder, LaysUnder}
use Rattle.command.proofs.Turns.{plan_turn, command-reads, command_lays}
use Rattle.command.proofs.Kept.{Agrees, plan_kept}
use Rattle.std.specs.Prelude.{Err, Ok, Result, Option}
use Rattle.command.specs.declared.{Task.Task}
use Rattle.hunt.specs.declared.{Spot.Spot}

-- ---- a plan's head

planned_here : (m : List Bool) (r : Rule) (s : Position) (x : Option Spot) (a : Aim) (p : Result Task Row) → Planned m r s x a p → plan_head s p ≡ s.head
unfolding plan_head
planned_here m r s x a p (refuses row) = refl
planned_here m r s x a p (stays e) = refl
planned_here m r s x a p (home e) = refl
planned_here m r s x a p (takes spot f n h) = refl

pub plans_here : (r : Rule) (m : Marks) (s : Position) (o : Orders) → plan_head s (plan_of r m s o) ≡ s.head
plans_here r m s o = planned_here (m s.head) r s o.selection r.aim _ (plan_is m r s o)

-- ---- of the markers, too, only those under the head are seen

aimed-alone : (r : Rule) (t : Tracks) (s : Position) (o : Orders) (a : Aim) → aimed r (marks_of t) s o a ≡ aimed r (marks_of (alone (t s.head))) s o a
unfolding aimed to_served to_next marks_of
aimed-alone r t s o Aim.Stays = refl
aimed-alone r t s o Aim.HomeAddress = refl
aimed-alone r t s o Aim.R0 = refl
aimed-alone r t s o Aim.NextId = refl
aimed-alone r t s o Aim.Next = refl
aimed-alone r t s o Aim.NextForData = refl
aimed-alone r t s o Aim.NextForKey = refl
aimed-alone r t s o Aim.Selected = refl

plans_alone : (r : Rule) (t : Tracks) (s : Position) (o : Orders) → plan_of r (marks_of t) s o ≡ plan_of r (marks_of (alone (t s.head))) s o
unfolding plan_of
plans_alone r t s o =
    ap (λ (x : Result Task Row). pick (licensed r.licence o) (unless_barred r.bar o.mask x) (Err Row.WrongBefore)) (aimed-alone r t s o r.aim)

-- ---- what a plan reads is under its head

lies-under : (h : Head) (l : List Area) → ReadsUnder h (on_head h l)
unfolding on_head
lies-under h [] = tt
lies-under h (a ∷ l) = (refl, lies-under h l)

areas_under : (n : Names) (t : Tracks) (h : Head) (c : ℕ) → ReadsUnder h (areas_of n t h c)
unfolding areas_of
areas_under Names.Nothing t h c = tt
areas_under Names.HomeAddress t h c = lies-under h (home_area ∷ [])
areas_under (Names.Count key body) t h c = lies-under h (count_area c ∷ named_by c key body (read_count (t h) c))

plan_under : (t : Tracks) (s : Position) (r : Rule) (p : Result Task Row) → ReadsUnder (plan_head s p) (plan_reads t r p)
unfolding plan_head plan_reads
plan_under t s r (Err row) = tt
plan_under t s r (Ok k) = areas_under r.names t k.head k.place

-- such areas are the same on that track alone
under_same : (t : Tracks) (h : Head) (l : List TrackArea) → ReadsUnder h l → AllSame t (alone (t h)) l
under_same t h [] u = tt
under_same t h (a ∷ l) u = (ap (λ (k : Head). area_cells (t k) a.area) u.0, under_same t h l u.1)

-- ---- a command

module _ (g : Shape) (t : Tracks) (s : Position) (o : Orders) (code : ℕ) (v : List ℕ) where
  pub reads_here : ReadsUnder s.head (command g t s o code v).reads
  reads_here =
      subst (ReadsUnder s.head) (sym (command-reads g t s o code v))
      (subst (λ (h : Head). ReadsUnder h (plan_reads t (rule_of code) (plan_of (rule_of code) (marks_of t) s o))) (plans_here (rule_of code) (marks_of t) s o)
      (plan_under t s (rule_of code) _))

  pub lays_here : LaysUnder s.head (command g t s o code v).lays
  lays_here =
      subst (λ (h : Head). LaysUnder h (command g t s o code v).lays) (plans_here (rule_of code) (marks_of t) s o) (command_lays g t s o code v)

  pub command_here : command g t s o code v ≡ command g (alone (t s.head)) s o code v
  unfolding command rule_turn
  command_here =
      let t' : Tracks = alone (t s.head) in
      let p : Result Task Row = plan_of (rule_of code) (marks_of t) s o in
      plan_kept g t t' s o code v (rule_of code) p
      (subst (Agrees t t' (rule_of code).act) (sym (plans_here (rule_of code) (marks_of t) s o)) (record { marked = refl; over = λ c n. refl }))
      (subst (AllSame t t') (command-reads g t s o code v) (under_same t s.head (command g t s o code v).reads reads_here))
      ∙ ap (plan_turn g t' s o code v (rule_of code)) (plans_alone (rule_of code) t s o)
