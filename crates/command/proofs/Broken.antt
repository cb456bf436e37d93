-- Of the areas that a command reads, in order, the first that is not readable ends it with its row. Why: the areas before have the same cells, so if the
-- count is one of them it names the same areas; if the count is the one, it has its row whatever it names.
use Prim.Native.Nat.{ℕ}
use mathlib.Core.Path.{◌≡◌, sym, ap, ap₂, ◌∙◌, subst}
use mathlib.Core.Bool.{Bool, true, false}
use mathlib.Core.List.{List, [], ◌∷◌}
use mathlib.Core.Logic.{inl, inr}
use Rattle.cells.specs.Cells.{pick, marks}
use Rattle.areas.specs.declared.{Part.Part, Counts.Counts}
use Rattle.areas.specs.Areas.{readable, row_of, home_area, count_area, read_count}
use Rattle.pack.specs.declared.{Head.Head, Shape.Shape}
use Rattle.held.specs.declared.{Position.Position, Orders.Orders}
use Rattle.command.specs.Command.{named_by, marks_of, plan_of, on_head, areas_of, all_read, gets, has_read, ready_by, plan_reads, ready_turn, rule_turn, command}
use Rattle.table.specs.declared.{Names.Names, Rule.Rule}
use Rattle.table.specs.Table.{rule_of}
use Rattle.turn.specs.Turn.{Tracks, TrackArea, check_turn}
use Rattle.command.specs.Frame.{Same, Breaks}
use Rattle.command.proofs.Turns.{plan_turn, command-reads}
use Rattle.command.proofs.Kept.{read_kept, count_kept}
use Rattle.std.specs.Prelude.{Err, Ok, Result, Option}
use Rattle.rows.specs.declared.{Row.Row}
use Rattle.command.specs.declared.{Task.Task}

module _ (t t' : Tracks) (p : Part) where
  -- this area is the one, or a later one is
  fails_here : (a : TrackArea) (x : Result Counts Row) → readable (t' a.head) a.area ≡ false → a.area.part ≡ p
      → pick (readable (t' a.head) a.area) x (Err (row_of a.area.part)) ≡ Err (row_of p)
  fails_here a x e f = ap₂ (λ (b : Bool) (q : Part). pick b x (Err (row_of q))) e f

  fails_later : (a : TrackArea) (x : Result Counts Row) → Same t t' a → readable (t a.head) a.area ≡ true → x ≡ Err (row_of p)
      → pick (readable (t' a.head) a.area) x (Err (row_of a.area.part)) ≡ Err (row_of p)
  fails_later a x e f g = ap (λ (b : Bool). pick b x (Err (row_of a.area.part))) (sym (read_kept t t' a e) ∙ f) ∙ g

  list_broken : (l : List TrackArea) (x : Result Counts Row) → Breaks t t' l p → all_read t' l x ≡ Err (row_of p)
  unfolding all_read
  list_broken [] x b = absurd b
  list_broken (a ∷ l) x (inl k) = fails_here a (all_read t' l x) k.0 k.1
  list_broken (a ∷ l) x (inr k) = fails_later a (all_read t' l x) k.0 k.1 (list_broken l x k.2)

  -- those that t' itself names
  areas_broken : (n : Names) (h : Head) (c : ℕ) (x : Result Counts Row) → Breaks t t' (areas_of n t h c) p → all_read t' (areas_of n t' h c) x ≡ Err (row_of p)
  unfolding areas_of on_head all_read
  areas_broken Names.Nothing h c x b = absurd b
  areas_broken Names.HomeAddress h c x b = list_broken (on_head h (home_area ∷ [])) x b
  areas_broken (Names.Count key body) h c x (inl k) = fails_here (record { head = h; area = count_area c }) _ k.0 k.1
  areas_broken (Names.Count key body) h c x (inr k) =
      fails_later (record { head = h; area = count_area c }) _ k.0 k.1
      (ap (λ (y : Option Counts). all_read t' (on_head h (named_by c key body y)) x) (sym (count_kept t t' h c k.0))
      ∙ list_broken (on_head h (named_by c key body (read_count (t h) c))) x k.2)

module _ (g : Shape) (t t' : Tracks) (s : Position) (o : Orders) (code : ℕ) (v : List ℕ) (p : Part) where
  pub plan_broken : (r : Rule) (q : Result Task Row) → Breaks t t' (plan_reads t r q) p
      → plan_turn g t' s o code v r q ≡ check_turn s o (plan_reads t' r q) (row_of p)
  unfolding plan_reads ready_by has_read ready_turn gets
  plan_broken r (Err row) b = absurd b
  plan_broken r (Ok k) b =
      ap (λ (x : Result Counts Row). ready_turn g t' s o v (areas_of r.names t' k.head k.place) (has_read code r s o k x))
      (areas_broken t t' p r.names k.head k.place _ b)

  -- ---- a command

  pub command_broken : ((h : Head) → marks (t h) ≡ marks (t' h)) → Breaks t t' (command g t s o code v).reads p
      → (r : List TrackArea) × (command g t' s o code v ≡ check_turn s o r (row_of p))
  unfolding command rule_turn marks_of
  command_broken same b =
      let q : Result Task Row = plan_of (rule_of code) (marks_of t) s o in (
        plan_reads t' (rule_of code) q,
        sym (λ i. plan_turn g t' s o code v (rule_of code) (plan_of (rule_of code) (λ h. same h i) s o))
            ∙ plan_broken (rule_of code) q (subst (λ (l : List TrackArea). Breaks t t' l p) (command-reads g t s o code v) b),
      )
