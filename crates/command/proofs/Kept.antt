-- What a command sees of the pack: the markers, the cells of the areas that it reads, and of those that it goes over whether they are byte cells.
-- Cylinders that agree in these give the same turn. Why: the areas are read in order, and which they are only the count says, which is one of them.
use Prim.Native.Nat.{ℕ}
use mathlib.Core.Path.{◌≡◌, refl, ap, ap₂, ◌∙◌, subst}
use mathlib.Core.Bool.{Bool, true≢false, false}
use mathlib.Core.List.{List, [], ◌∷◌}
use lib.ListN.{take}
use Rattle.table.specs.Table.{is_write, rule_of}
use Rattle.cells.specs.Cells.{pick, both, bytes_of, marks}
use Rattle.house_check.specs.Check.{good_cells}
use Rattle.areas.specs.declared.{Area.Area, Counts.Counts}
use Rattle.areas.specs.Areas.{readable, area_bytes, row_of, count_area, counts_of, counts_at, read_count}
use Rattle.pack.specs.declared.{Head.Head, Shape.Shape}
use Rattle.held.specs.declared.{Position.Position, Orders.Orders}
use Rattle.command.specs.declared.{Task.Task, Job.Job}
use Rattle.command.specs.Command.{named_by, seen_with, marks_of, plan_of, on_head, areas_of, all_read, counts_in, gets, seen_of, goes_over, all_recorded, areas_read, sight, act_turn, job_of, has_read, ready_by, plan_reads, ready_turn, rule_turn, command}
use Rattle.format.specs.Format.{recorded}
use Rattle.table.specs.declared.{Names.Names, Act.Act, Rule.Rule}
use Rattle.turn.specs.Turn.{Tracks, TrackArea, check_turn}
use Rattle.command.specs.Frame.{Same, AllSame, plan_head}
use Rattle.command.proofs.Turns.{plan_turn, command-reads}
use Rattle.std.specs.Prelude.{Some, None, Ok, Err, Result, Option}
use Rattle.rows.specs.declared.{Row.Row}

module _ (t t' : Tracks) where
  -- what else an act sees of the track under a head: the markers, and whether the areas that it goes over are byte cells
  pub record Agrees (a : Act) (h : Head) : Type 0 where
    pub marked : marks (t h) ≡ marks (t' h)
    pub over : (c : ℕ) (n : Counts) → all_recorded (t h) (goes_over a c n) ≡ all_recorded (t' h) (goes_over a c n)

  -- ---- an area with the same cells

  pub read_kept : (a : TrackArea) → Same t t' a → readable (t a.head) a.area ≡ readable (t' a.head) a.area
  unfolding readable
  read_kept a e = ap (good_cells a.area.bytes) e

  bytes-kept : (a : TrackArea) → Same t t' a → area_bytes (t a.head) a.area ≡ area_bytes (t' a.head) a.area
  unfolding area_bytes
  bytes-kept a e = ap (λ (c : List ℕ). take a.area.bytes (bytes_of c)) e

  -- ---- a list of them

  list_kept : (l : List TrackArea) (x : Result Counts Row) → AllSame t t' l → all_read t l x ≡ all_read t' l x
  unfolding all_read
  list_kept [] x e = refl
  list_kept (a ∷ l) x e =
      ap₂ (λ (b : Bool) (y : Result Counts Row). pick b y (Err (row_of a.area.part))) (read_kept a e.0) (list_kept l x e.1)

  saw_kept : (l : List TrackArea) → AllSame t t' l → seen_of t l ≡ seen_of t' l
  unfolding seen_of
  saw_kept [] e = refl
  saw_kept (a ∷ l) e = ap₂ (seen_with a.area.part) (bytes-kept a e.0) (saw_kept l e.1)

  over-kept : (h : Head) → ((a : Area) → recorded (t h) a ≡ recorded (t' h) a) → (l : List Area) → all_recorded (t h) l ≡ all_recorded (t' h) l
  unfolding all_recorded
  over-kept h e [] = refl
  over-kept h e (a ∷ l) = ap₂ both (e a) (over-kept h e l)

  -- only a write goes over any
  over_none : (h : Head) (a : Act) → is_write a ≡ false → (c : ℕ) (n : Counts) → all_recorded (t h) (goes_over a c n) ≡ all_recorded (t' h) (goes_over a c n)
  unfolding is_write goes_over all_recorded
  over_none h (Act.Control k) e c n = refl
  over_none h (Act.Search k) e c n = refl
  over_none h (Act.Read counted) e c n = refl
  over_none h (Act.Write w) e c n = absurd (true≢false e)

  -- ---- the areas of a record whose count area is so

  module _ (h : Head) (c : ℕ) where
    abbrev count_there : TrackArea
    count_there = record { head = h; area = count_area c }

    counts_kept : Same t t' count_there → counts_at (t h) c ≡ counts_at (t' h) c
    unfolding counts_at
    counts_kept e = ap counts_of (bytes-kept count_there e)

    pub count_kept : Same t t' count_there → read_count (t h) c ≡ read_count (t' h) c
    unfolding read_count
    count_kept e = ap₂ (λ (b : Bool) (n : Counts). pick b (Some n) None) (read_kept count_there e) (counts_kept e)

    -- the same are named, and the same counts stand there
    areas_kept : (n : Names) → AllSame t t' (areas_of n t h c) → areas_of n t h c ≡ areas_of n t' h c
    unfolding areas_of on_head
    areas_kept Names.Nothing e = refl
    areas_kept Names.HomeAddress e = refl
    areas_kept (Names.Count key body) e = ap (λ (x : Option Counts). on_head h (count_area c ∷ named_by c key body x)) (count_kept e.0)

    in_kept : (n : Names) → AllSame t t' (areas_of n t h c) → counts_in n t h c ≡ counts_in n t' h c
    unfolding areas_of on_head counts_in
    in_kept Names.Nothing e = refl
    in_kept Names.HomeAddress e = refl
    in_kept (Names.Count key body) e = counts_kept e.0

    gets_kept : (n : Names) → AllSame t t' (areas_of n t h c) → gets n t h c ≡ gets n t' h c
    unfolding gets
    gets_kept n e =
        list_kept (areas_of n t h c) (Ok (counts_in n t h c)) e
        ∙ ap₂ (λ (l : List TrackArea) (y : Counts). all_read t' l (Ok y)) (areas_kept n e) (in_kept n e)

-- ---- a plan: all that it sees is under its head

module _ (g : Shape) (t t' : Tracks) (s : Position) (o : Orders) (code : ℕ) (v : List ℕ) where
  sight-kept : (j : Job) → Agrees t t' j.act j.task.head → AllSame t t' (areas_read t j) → sight t j v ≡ sight t' j v
  unfolding sight areas_read
  sight-kept j k e =
      let A = areas_kept t t' j.task.head j.task.place j.names e in
      let S = saw_kept t t' _ e ∙ ap (seen_of t') A in
      λ i. record { job = j; sent = v; reads = A i; seen = S i; marks = k.marked i; recorded = k.over j.task.place j.counts i }

  got_kept : (r : Rule) (k : Task) (x : Result Counts Row) → Agrees t t' r.act k.head → AllSame t t' (areas_of r.names t k.head k.place)
      → ready_turn g t s o v (areas_of r.names t k.head k.place) (has_read code r s o k x)
      ≡ ready_turn g t' s o v (areas_of r.names t' k.head k.place) (has_read code r s o k x)
  unfolding has_read ready_turn areas_read
  got_kept r k (Ok n) a e = ap (act_turn g r.act) (sight-kept (job_of code r s o k n) a e)
  got_kept r k (Err row) a e = ap (λ (l : List TrackArea). check_turn s o l row) (areas_kept t t' k.head k.place r.names e)

  pub plan_kept : (r : Rule) (p : Result Task Row) → Agrees t t' r.act (plan_head s p) → AllSame t t' (plan_reads t r p)
      → plan_turn g t s o code v r p ≡ plan_turn g t' s o code v r p
  unfolding plan_head plan_reads ready_by ready_turn
  plan_kept r (Err row) a e = refl
  plan_kept r (Ok k) a e =
      got_kept r k _ a e
      ∙ ap (λ (x : Result Counts Row). ready_turn g t' s o v (areas_of r.names t' k.head k.place) (has_read code r s o k x))
      (gets_kept t t' k.head k.place r.names e)

  -- ---- a command

  by_kept : ((h : Head) → Agrees t t' (rule_of code).act h) → AllSame t t' (command g t s o code v).reads → command g t s o code v ≡ command g t' s o code v
  unfolding command rule_turn marks_of
  by_kept a e =
      plan_kept (rule_of code) _ (a _) (subst (AllSame t t') (command-reads g t s o code v) e)
      ∙ (λ i. plan_turn g t' s o code v (rule_of code) (plan_of (rule_of code) (λ h. (a h).marked i) s o))

  pub command-kept : ((h : Head) → marks (t h) ≡ marks (t' h)) → ((h : Head) (a : Area) → recorded (t h) a ≡ recorded (t' h) a)
      → AllSame t t' (command g t s o code v).reads → command g t s o code v ≡ command g t' s o code v
  command-kept same over e = by_kept (λ h. record { marked = same h; over = λ c n. over-kept t t' h (over h) _ }) e

  -- one that is no write sees the markers and what it reads, and nothing else
  pub still_kept : is_write (rule_of code).act ≡ false → ((h : Head) → marks (t h) ≡ marks (t' h))
      → AllSame t t' (command g t s o code v).reads → command g t s o code v ≡ command g t' s o code v
  still_kept q same e = by_kept (λ h. record { marked = same h; over = over_none t t' h (rule_of code).act q }) e
