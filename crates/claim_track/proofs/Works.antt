-- Where a write works, and what it has read when it lays: it stays under the head; 1D, 05 and 0D work on the record selected, and know its count; Write R0
-- has read the home address; each has its licence, and the mask lets it through. Why: so say their rows of the table, and a plan refuses what is not
-- permitted.
use Prim.Native.Nat.{ℕ}
use mathlib.Core.Path.{◌≡◌, refl, sym, ap, ◌∙◌, subst}
use mathlib.Core.Bool.{Bool, true, false, false≢true}
use mathlib.Core.List.{List, [], ◌∷◌}
use native.Mathlib.Omega.{arith}
use lib.ListN.{get_or}
use Rattle.cells.specs.Cells.{pick, both}
use Rattle.cells.proofs.Tests.{first_of, second_of, first_picked}
use Rattle.rows.specs.declared.{Row.Row}
use Rattle.areas.specs.declared.{Counts.Counts}
use Rattle.areas.specs.Areas.{home_area, home_flag, counts_at, readable}
use Rattle.hunt.specs.declared.{Spot.Spot}
use Rattle.hunt.specs.Hunt.{count_first}
use Rattle.pack.specs.declared.{Head.Head, Shape.Shape}
use Rattle.held.specs.declared.{Position.Position, Orders.Orders}
use Rattle.command.specs.declared.{Task.Task}
use Rattle.command.specs.Command.{seen_with, Marks, marks_of, licensed, aimed, plan_of, on_head, areas_of, all_read, counts_in, gets, seen_of, sight, write_turn, act_turn, job_of, has_read, ready_by, plan_reads, ready_turn, rule_turn, command}
use Rattle.table.specs.declared.{Aim.Aim, Names.Names, Write.Write, Act.Act, Rule.Rule}
use Rattle.table.specs.Table.{rule_of, controls, searches, reads, writes}
use Rattle.table.proofs.Laws.{every, each, of_every}
use Rattle.turn.specs.Turn.{Tracks, TrackArea, Turn, check_turn}
use Rattle.command.proofs.Planned.{is_selected, Planned, refuses, stays, home, takes, aimed_is, permitted_or}
use Rattle.claim_track.specs.Lasting.{Permitted}
use Rattle.std.specs.Prelude.{Some, Ok, Err, Result}

-- ---- what the table's rows of the writes have in common

unfoldable pub names_home : Names → Bool
names_home Names.Nothing = false
names_home Names.HomeAddress = true
names_home (Names.Count key body) = false

unfoldable pub names_count : Names → Bool
names_count Names.Nothing = false
names_count Names.HomeAddress = false
names_count (Names.Count key body) = true

-- what a write needs of its row
unfoldable of_write : Write → Rule → Bool
of_write Write.HomeAddress r = true
of_write Write.R0 r = names_home r.names
of_write Write.CountKeyData r = both (is_selected r.aim) (names_count r.names)
of_write (Write.Update key) r = both (is_selected r.aim) (names_count r.names)

unfoldable of_act : Act → Rule → Bool
of_act (Act.Control a) r = true
of_act (Act.Search h) r = true
of_act (Act.Read c) r = true
of_act (Act.Write w) r = of_write w r

unfoldable rowed : Rule → Bool
rowed r = of_act r.act r

rowed_rule : (c : ℕ) → rowed (rule_of c) ≡ true
unfolding rowed of_act of_write is_selected names_home names_count every each controls searches reads writes
rowed_rule c = of_every rowed refl c

write_row_lem : (w : Write) (c : ℕ) → (rule_of c).act ≡ Act.Write w → of_write w (rule_of c) ≡ true
unfolding rowed of_act
write_row_lem w c act = ap (λ (a : Act). of_act a (rule_of c)) (sym act) ∙ rowed_rule c

-- ---- where a write works: under the head where it stands; on the record selected, if that is its aim

pub record OnSelected (o : Orders) (c : ℕ) : Type 0 where
  pub spot : Spot
  pub is : o.selection ≡ Some spot
  pub place : c ≡ count_first spot

record Placed (s : Position) (o : Orders) (a : Aim) (k : Task) : Type 0 where
  here : k.head ≡ s.head
  on : is_selected a ≡ true → OnSelected o k.place

abbrev PlanPlaced : Position → Orders → Aim → Result Task Row → Type 0
PlanPlaced s o a (Err row) = Unit {0}
PlanPlaced s o a (Ok k) = Placed s o a k

planned_placed : (m : List Bool) (r : Rule) (s : Position) (o : Orders) (a : Aim) (p : Result Task Row) → Planned m r s o.selection a p → PlanPlaced s o a p
unfolding is_selected
planned_placed m r s o a p (refuses row) = tt
planned_placed m r s o a p (stays e) = record { here = refl; on = λ q. absurd (false≢true (sym (ap is_selected e) ∙ q)) }
planned_placed m r s o a p (home e) = record { here = refl; on = λ q. absurd (false≢true (sym (ap is_selected e) ∙ q)) }
planned_placed m r s o a p (takes spot f n h) = record { here = refl; on = λ q. record { spot = spot; is = f.selected q; place = refl } }

pub permitted_plan : (r : Rule) (m : Marks) (s : Position) (o : Orders) → Permitted r o → plan_of r m s o ≡ aimed r m s o r.aim
unfolding plan_of
permitted_plan r m s o q = first_picked (licensed r.licence o) _ _ q.licence ∙ q.mask _

-- ---- what a write has when it lays: Write R0 the home address; 1D, 05 and 0D the record selected, and its count

abbrev pub HomeSeen : Names → Tracks → Task → Type 0
HomeSeen names t k =
    (readable (t k.head) home_area ≡ true) × (get_or (seen_of t (areas_of names t k.head k.place)).home 0 0 ≡ home_flag (t k.head))

abbrev pub CountSeen : Orders → Tracks → Task → Counts → Type 0
CountSeen o t k n = OnSelected o k.place × (n ≡ counts_at (t k.head) k.place)

abbrev pub Needs : Write → Rule → Orders → Tracks → Task → Counts → Type 0
Needs Write.HomeAddress r o t k n = Unit {0}
Needs Write.R0 r o t k n = HomeSeen r.names t k
Needs Write.CountKeyData r o t k n = CountSeen o t k n
Needs (Write.Update key) r o t k n = CountSeen o t k n

not_fails : (b : Bool) (x : Result Counts Row) (row : Row) (n : Counts) → pick b x (Err row) ≡ Ok n → (b ≡ true) × (x ≡ Ok n)
not_fails true x row n e = (refl, e)
not_fails false x row n e = absurd (let z : ◌≡◌ {A = ℕ} 0 1 = cc in omega arith)

all_seen : (t : Tracks) (l : List TrackArea) (x : Result Counts Row) (n : Counts) → all_read t l x ≡ Ok n → x ≡ Ok n
unfolding all_read
all_seen t [] x n e = e
all_seen t (a ∷ l) x n e = all_seen t l x n (not_fails (readable (t a.head) a.area) _ _ n e).1

home_seen : (names : Names) (t : Tracks) (k : Task) (n : Counts) → names_home names ≡ true → gets names t k.head k.place ≡ Ok n → HomeSeen names t k
unfolding names_home gets areas_of on_head all_read seen_of seen_with
home_seen Names.Nothing t k n q e = absurd (false≢true q)
home_seen Names.HomeAddress t k n q e = ((not_fails (readable (t k.head) home_area) _ _ n e).0, refl)
home_seen (Names.Count key body) t k n q e = absurd (false≢true q)

count-seen : (names : Names) (t : Tracks) (h : Head) (c : ℕ) (n : Counts) → names_count names ≡ true → gets names t h c ≡ Ok n → n ≡ counts_at (t h) c
unfolding names_count gets counts_in
count-seen Names.Nothing t h c n q e = absurd (false≢true q)
count-seen Names.HomeAddress t h c n q e = absurd (false≢true q)
count-seen (Names.Count key body) t h c n q e =
    let z : ◌≡◌ {A = Result Counts Row} (Ok (counts_at (t h) c)) (Ok n) = all_seen t (areas_of (Names.Count key body) t h c) _ n e in
    cc

module _ (r : Rule) (s : Position) (o : Orders) (t : Tracks) (k : Task) (n : Counts) (P : Placed s o r.aim k)
    (e : gets r.names t k.head k.place ≡ Ok n) where
  counted-seen : both (is_selected r.aim) (names_count r.names) ≡ true → CountSeen o t k n
  counted-seen q =
      (P.on (first_of (is_selected r.aim) _ q), count-seen r.names t k.head k.place n (second_of (is_selected r.aim) _ q) e)

  write_seen : (w : Write) → of_write w r ≡ true → Needs w r o t k n
  unfolding of_write
  write_seen Write.HomeAddress q = tt
  write_seen Write.R0 q = home_seen r.names t k n q e
  write_seen Write.CountKeyData q = counted-seen q
  write_seen (Write.Update key) q = counted-seen q

-- ---- the turn of a write: a row ended it; or it has what it needs, and lays

module _ (g : Shape) (t : Tracks) (s : Position) (o : Orders) (code : ℕ) (v : List ℕ) (w : Write) (act : (rule_of code).act ≡ Act.Write w)
    (Q : Turn → Type 0) (ended : (l : List TrackArea) (row : Row) → Q (check_turn s o l row))
    (laying : Permitted (rule_of code) o → (k : Task) (n : Counts) → k.head ≡ s.head → Needs w (rule_of code) o t k n → Q (write_turn w (sight t (job_of code (rule_of code) s o k n) v))) where
  abbrev r : Rule
  r = rule_of code

  read_turn_lem : Permitted r o → (l : List TrackArea) (k : Task) → Placed s o r.aim k → (y : Result Counts Row) → gets r.names t k.head k.place ≡ y
      → Q (ready_turn g t s o v l (has_read code r s o k y))
  unfolding ready_turn has_read act_turn
  read_turn_lem q l k P (Ok n) e =
      subst (λ (a : Act). Q (act_turn g a (sight t (job_of code r s o k n) v))) (sym act)
      (laying q k n P.here (write_seen r s o t k n P e w (write_row_lem w code act)))
  read_turn_lem q l k P (Err row) e = ended l row

  abbrev Done : Result Task Row → Type 0
  Done p = Q (ready_turn g t s o v (plan_reads t r p) (ready_by t code r s o p))

  plan_turn_lem : Permitted r o → (p : Result Task Row) → PlanPlaced s o r.aim p → Done p
  unfolding ready_turn ready_by
  plan_turn_lem q (Err row) P = ended _ row
  plan_turn_lem q (Ok k) P = read_turn_lem q _ k P (gets r.names t k.head k.place) refl

  pub write_turn_lem : Q (command g t s o code v)
  unfolding command rule_turn ready_turn ready_by
  write_turn_lem =
      permitted_or Done (λ row. ended _ row) r (marks_of t) s o
      (λ e q. plan_turn_lem (record { licence = e; mask = q }) (aimed r (marks_of t) s o r.aim) (planned_placed _ r s o _ _ (aimed_is (marks_of t) r s o r.aim)))
