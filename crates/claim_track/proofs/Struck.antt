-- One command on a cylinder and on the same cylinder with areas hit. If it reads none of them it comes to the same; the first one hit that it reads ends
-- it. Why: the areas that it reads are the tracks' own, the home address or those of a record that is there, so those that are not hit have their cells.
use Prim.Native.Nat.{ℕ}
use mathlib.Core.Path.{◌≡◌, refl, sym, ap, ◌∙◌}
use mathlib.Core.Bool.{Bool, true, false, not, true≢false, false≢true}
use mathlib.Core.List.{List, [], ◌∷◌, ◌++◌}
use mathlib.Core.Logic.{inl, inr}
use native.Mathlib.Omega.{arith}
use lib.Dec.{ltb}
use borrow.Author.Tests.{ltb-true, not-true}
use Rattle.table.specs.Table.{is_write, rule_of, controls, searches, reads, writes}
use Rattle.cells.specs.Cells.{either, marks}
use Rattle.cells.proofs.Tests.{pick_all, second_of}
use Rattle.areas.specs.declared.{Area.Area, Counts.Counts}
use Rattle.areas.specs.Areas.{readable, row_of, count_area, counts_at, read_count, key_area, data_area}
use Rattle.hunt.specs.declared.{Spot.Spot}
use Rattle.hunt.specs.Hunt.{count_first}
use Rattle.pack.specs.declared.{Head.Head, Shape.Shape}
use Rattle.held.specs.declared.{Position.Position, Orders.Orders}
use Rattle.command.specs.Command.{area_if, named, named_by, SelectedOn, marks_of, on_head, areas_of, plan_reads, command}
use Rattle.table.specs.declared.{Names.Names, Rule.Rule}
use Rattle.table.proofs.Laws.{each, every, of_every}
use Rattle.turn.specs.Turn.{Tracks, TrackArea, check_turn}
use Rattle.command.proofs.Planned.{takes_record, Planned, refuses, stays, home, takes, plan_is}
use Rattle.command.specs.Frame.{AllSame, Breaks, ReadsUnder}
use Rattle.command.proofs.Turns.{command-reads}
use Rattle.command.proofs.Kept.{still_kept}
use Rattle.command.proofs.Broken.{command_broken}
use Rattle.command.proofs.Here.{reads_here}
use Rattle.claim_track.specs.Damage.{IsRecord, Own, own_home, own_count, own_key, own_data, any}
use Rattle.claim_track.proofs.Hurts.{Hurt}
use Rattle.std.specs.Prelude.{Some, None, Option, Result}
use Rattle.command.specs.declared.{Task.Task}
use Rattle.rows.specs.declared.{Row.Row}

abbrev pub lies : Head → Area → TrackArea
lies h a = record { head = h; area = a }

-- ---- a command that takes no record names none: a test of every row of the table

unfoldable names_record : Names → Bool
names_record Names.Nothing = false
names_record Names.HomeAddress = false
names_record (Names.Count key body) = true

names_none : (code : ℕ) → takes_record (rule_of code).aim ≡ false → names_record (rule_of code).names ≡ false
unfolding every each controls searches reads writes takes_record names_record
names_none code e =
    let t = of_every (λ (r : Rule). either (takes_record r.aim) (not (names_record r.names))) refl code in
    not-true _ (sym (ap (λ (b : Bool). either b (not (names_record (rule_of code).names))) e) ∙ t)

-- ---- what a command reads is the tracks' own. A count that is not readable names nothing, so this holds of any tracks

-- each is an area of its head's track
abbrev pub OwnAll : Tracks → List TrackArea → Type 0
OwnAll t [] = Unit {0}
OwnAll t (a ∷ l) = Own (t a.head) a.area × OwnAll t l

module _ (t : Tracks) (h : Head) where
  own_append : (l m : List Area) → OwnAll t (on_head h l) → OwnAll t (on_head h m) → OwnAll t (on_head h (l ++ m))
  unfolding on_head
  own_append [] m o o' = o'
  own_append (a ∷ l) m o o' = (o.0, own_append l m o.1 o')

  own_if : (b : Bool) (a : Area) → (b ≡ true → Own (t h) a) → OwnAll t (on_head h (area_if b a))
  unfolding on_head area_if
  own_if true a o = (o refl, tt)
  own_if false a o = tt

  own_named : (r : Spot) (key body : Bool) → IsRecord (t h) r → OwnAll t (on_head h (named (count_first r) key body (counts_at (t h) (count_first r))))
  unfolding named
  own_named r key body b =
      let n : Counts = counts_at (t h) (count_first r) in
      own_append _ _
      (own_if _ (key_area (count_first r) n) (λ e. own_key r b (λ z. omega (arith, ltb-true 0 n.kl (second_of key (ltb 0 n.kl) e)))))
      (own_if _ (data_area (count_first r) n) (λ e. own_data r b))

  own_record : (r : Spot) (n : Names) → IsRecord (t h) r → OwnAll t (areas_of n t h (count_first r))
  unfolding areas_of on_head read_count named_by
  own_record r Names.Nothing b = tt
  own_record r Names.HomeAddress b = (own_home, tt)
  own_record r (Names.Count key body) b = (
    own_count r b,
    pick_all (λ (x : Option Counts). OwnAll t (on_head h (named_by (count_first r) key body x))) (readable (t h) (count_area (count_first r)))
        {x = Some (counts_at (t h) (count_first r))} {y = None} (own_named r key body b) tt,
  )

  own_bare : (n : Names) (c : ℕ) → names_record n ≡ false → OwnAll t (areas_of n t h c)
  unfolding areas_of on_head names_record
  own_bare Names.Nothing c e = tt
  own_bare Names.HomeAddress c e = (own_home, tt)
  own_bare (Names.Count key body) c e = absurd (true≢false e)

own_plan : (t : Tracks) (r : Rule) (s : Position) (x : Option Spot) (p : Result Task Row) → (takes_record r.aim ≡ false → names_record r.names ≡ false)
    → SelectedOn (marks (t s.head)) x → Planned (marks (t s.head)) r s x r.aim p → OwnAll t (plan_reads t r p)
unfolding plan_reads takes_record
own_plan t r s x p e sel (refuses row) = tt
own_plan t r s x p e sel (stays k) = own_bare t s.head r.names _ (e (ap takes_record k))
own_plan t r s x p e sel (home k) = own_bare t s.head r.names _ (e (ap takes_record k))
own_plan t r s x p e sel (takes spot f n k) = own_record t s.head spot r.names (f.fits sel)

pub reads_own : (g : Shape) (t : Tracks) (s : Position) (o : Orders) (code : ℕ) (v : List ℕ) → SelectedOn (marks (t s.head)) o.selection
    → OwnAll t (command g t s o code v).reads
unfolding marks_of
reads_own g t s o code v sel = rw (command-reads g t s o code v) (own_plan t (rule_of code) s _ _ (names_none code) sel (plan_is (marks_of t) (rule_of code) s o))

-- ---- areas that are hit, and those that are not

neither : (b c : Bool) → either b c ≡ false → (b ≡ false) × (c ≡ false)
neither true c e = absurd (true≢false e)
neither false c e = (refl, e)

module _ (hit : TrackArea → Bool) (t t' : Tracks) (H : (h : Head) → Hurt (λ (a : Area). hit (lies h a)) (t h) (t' h)) where
  all_same : (l : List TrackArea) → OwnAll t l → any hit l ≡ false → AllSame t t' l
  unfolding any
  all_same [] o e = tt
  all_same (a ∷ l) o e =
      let n = neither (hit a) _ e in
      ((H a.head).kept a.area o.0 n.0, all_same l o.1 n.1)

  -- of areas under one head the first that is hit
  first_hit : (h : Head) (l : List TrackArea) → ReadsUnder h l → OwnAll t l → any hit l ≡ true → (y : Area) × (hit (lies h y) ≡ true) × Breaks t t' l y.part
  unfolding any
  first_hit h [] u o e = absurd (false≢true e)
  first_hit h (a ∷ l) u o e = go (hit a) refl (first_hit h l u.1 o.1)
    where
      go : (b : Bool) → hit a ≡ b → (any hit l ≡ true → (y : Area) × (hit (lies h y) ≡ true) × Breaks t t' l y.part)
          → (y : Area) × (hit (lies h y) ≡ true) × Breaks t t' (a ∷ l) y.part
      go true k f = (a.area, ap (λ (i : Head). hit (lies i a.area)) (sym u.0) ∙ k, inl ((H a.head).broken a.area o.0 k, refl))
      go false k f =
          let r = f (sym (ap (λ (b : Bool). either b (any hit l)) k) ∙ e) in
          let x = ap (λ (i : Head). hit (lies i r.0)) u.0 ∙ r.1 in
          (r.0, r.1, inr ((H a.head).kept a.area o.0 k, (H a.head).sound r.0 x a.area o.0, r.2))

  -- ---- a command

  module _ (g : Shape) (s : Position) (o : Orders) (code : ℕ) (v : List ℕ) (sel : SelectedOn (marks (t s.head)) o.selection) where
    pub command-spared : is_write (rule_of code).act ≡ false → any hit (command g t s o code v).reads ≡ false
        → command g t s o code v ≡ command g t' s o code v
    command-spared q e = still_kept g t t' s o code v q (λ h. (H h).marked) (all_same _ (reads_own g t s o code v sel) e)

    pub command_struck : any hit (command g t s o code v).reads ≡ true
        → (y : Area) × (hit (lies s.head y) ≡ true) × (r : List TrackArea) × (command g t' s o code v ≡ check_turn s o r (row_of y.part))
    command_struck e =
        let b = first_hit s.head _ (reads_here g t s o code v) (reads_own g t s o code v sel) e in
        let r = command_broken g t t' s o code v b.0.part (λ h. (H h).marked) b.2 in
        (b.0, b.1, r.0, r.1)
