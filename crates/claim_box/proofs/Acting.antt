-- A command ends in a row of the Unit Check table, or it acts: then it was licensed, the mask let it, and it works where its row aims, on counts that it
-- has read. A write works on the record that it takes.
use Prim.Native.Nat.{ℕ, ◌+◌}
use mathlib.Core.Path.{◌≡◌, refl, sym, ap, ◌∙◌}
use mathlib.Core.Bool.{Bool, true, false, false≢true}
use mathlib.Core.List.{List, [], ◌∷◌}
use native.Mathlib.Omega.{arith}
use lib.Dec.{ltb}
use Rattle.cells.specs.Cells.{pick, both}
use Rattle.cells.proofs.Tests.{first_of, second_of}
use Rattle.rows.specs.declared.{Row.Row}
use Rattle.areas.specs.declared.{Counts.Counts}
use Rattle.areas.specs.Areas.{readable, counts_at}
use Rattle.hunt.specs.declared.{Spot.Spot}
use Rattle.hunt.specs.Hunt.{count_first}
use Rattle.pack.specs.declared.{Head.Head, Shape.Shape}
use Rattle.held.specs.declared.{Position.Position, Orders.Orders}
use Rattle.command.specs.declared.{Task.Task}
use Rattle.command.specs.Command.{most_tally, marks_of, licensed, tallies, on_record, on_selected, aimed, unless_barred, plan_of, all_read, counts_in, gets, sight, act_turn, job_of, has_read, ready_by, ready_turn, rule_turn}
use Rattle.table.specs.declared.{Bar.Bar, Aim.Aim, Names.Names, Write.Write, Act.Act, Rule.Rule}
use Rattle.table.specs.Table.{rule_of, controls, searches, reads, writes, bars_seek, bars_write}
use Rattle.table.proofs.Laws.{every, each, of_every}
use Rattle.turn.specs.Turn.{Tracks, TrackArea, Turn, check_turn}
use Rattle.command.proofs.Planned.{is_r0, is_selected}
use Rattle.command.specs.Frame.{plan_head}
use Rattle.command.proofs.Here.{plans_here}
use Rattle.claim_box.specs.Confined.{bars}
use Rattle.std.specs.Prelude.{None, Some, Ok, Err, Result, Option}

-- ---- what the rows of the writes have in common: 15 takes R0; 1D, 05 and 0D the record selected, whose count they read

unfoldable pub is_count : Names → Bool
is_count Names.Nothing = false
is_count Names.HomeAddress = false
is_count (Names.Count key body) = true

unfoldable pub on_selection : Rule → Bool
on_selection r = both (is_selected r.aim) (is_count r.names)

unfoldable pub apt_write : Write → Rule → Bool
apt_write Write.HomeAddress r = true
apt_write Write.R0 r = is_r0 r.aim
apt_write Write.CountKeyData r = on_selection r
apt_write (Write.Update key) r = on_selection r

unfoldable apt_act : Act → Rule → Bool
apt_act (Act.Control a) r = true
apt_act (Act.Search h) r = true
apt_act (Act.Read counted) r = true
apt_act (Act.Write k) r = apt_write k r

unfoldable apt : Rule → Bool
apt r = apt_act r.act r

pub apt_write_lem : (c : ℕ) (k : Write) → (rule_of c).act ≡ Act.Write k → apt_write k (rule_of c) ≡ true
unfolding apt apt_act apt_write on_selection is_selected is_count is_r0 every each controls searches reads writes
apt_write_lem c k e = ap (λ (a : Act). apt_act a (rule_of c)) (sym e) ∙ of_every apt refl c

-- ---- a plan that works

refuses_not : (row : Row) (k : Task) → ◌≡◌ {A = Result Task Row} (Err row) (Ok k) → ⊥
refuses_not row k e = let z : ◌≡◌ {A = ℕ} 0 1 = cc in omega arith

works_so : (b : Bool) (row : Row) (x : Result Task Row) (k : Task) → pick b x (Err row) ≡ Ok k → (b ≡ true) × (x ≡ Ok k)
works_so true row x k e = (refl, e)
works_so false row x k e = absurd (refuses_not row k e)

works_else : (b : Bool) (row : Row) (x : Result Task Row) (k : Task) → pick b (Err row) x ≡ Ok k → (b ≡ false) × (x ≡ Ok k)
works_else true row x k e = absurd (refuses_not row k e)
works_else false row x k e = (refl, e)

same_place : (j k : Task) → ◌≡◌ {A = Result Task Row} (Ok j) (Ok k) → k.place ≡ j.place
same_place j k e = cc

unbarred : (b : Bar) (m : ℕ) (x : Result Task Row) (k : Task) → unless_barred b m x ≡ Ok k → (bars b m ≡ false) × (x ≡ Ok k)
unfolding unless_barred bars
unbarred Bar.Nothing m x k e = (refl, e)
unbarred (Bar.Seeks q) m x k e = works_else (bars_seek m q) Row.SeekBarred x k e
unbarred (Bar.Writes q) m x k e = works_else (bars_write m q) Row.WriteBarred x k e

pub bars_not : (b : Bar) (m : ℕ) (x : Result Task Row) → bars b m ≡ false → unless_barred b m x ≡ x
unfolding unless_barred bars
bars_not Bar.Nothing m x e = refl
bars_not (Bar.Seeks q) m x e = ap (λ (z : Bool). pick z (Err Row.SeekBarred) x) e
bars_not (Bar.Writes q) m x e = ap (λ (z : Bool). pick z (Err Row.WriteBarred) x) e

-- ---- what was got although areas stand before it

got_so : (b : Bool) (x : Result Counts Row) (row : Row) (n : Counts) → pick b x (Err row) ≡ Ok n → x ≡ Ok n
got_so true x row n e = e
got_so false x row n e = absurd (let z : ◌≡◌ {A = ℕ} 0 1 = cc in omega arith)

got_same : (t : Tracks) (l : List TrackArea) (m n : Counts) → all_read t l (Ok m) ≡ Ok n → m ≡ n
unfolding all_read
got_same t [] m n e = cc
got_same t (a ∷ l) m n e = got_same t l m n (got_so (readable (t a.head) a.area) _ _ n e)

got_counts : (x : Names) (t : Tracks) (h : Head) (c : ℕ) (n : Counts) → is_count x ≡ true → gets x t h c ≡ Ok n → n ≡ counts_at (t h) c
unfolding is_count gets counts_in
got_counts Names.Nothing t h c n i e = absurd (false≢true i)
got_counts Names.HomeAddress t h c n i e = absurd (false≢true i)
got_counts (Names.Count key body) t h c n i e = sym (got_same t _ (counts_at (t h) c) n e)

module _ (t : Tracks) (s : Position) (o : Orders) (r : Rule) where
  -- ---- a command that acts

  pub record Acting (k : Task) (n : Counts) : Type 0 where
    pub licence : licensed r.licence o ≡ true
    pub mask : bars r.bar o.mask ≡ false
    pub aims : aimed r (marks_of t) s o r.aim ≡ Ok k
    pub here : k.head ≡ s.head
    pub sees : gets r.names t k.head k.place ≡ Ok n

  acting : (k : Task) (n : Counts) → plan_of r (marks_of t) s o ≡ Ok k → gets r.names t k.head k.place ≡ Ok n → Acting k n
  unfolding plan_of plan_head
  acting k n e f =
      let p = works_so (licensed r.licence o) Row.WrongBefore _ k e in
      let q = unbarred r.bar o.mask _ k p.1 in
      record { licence = p.0; mask = q.0; aims = q.1; here = ap (plan_head s) (sym e) ∙ plans_here r (marks_of t) s o; sees = f }

  module _ (g : Shape) (code : ℕ) (v : List ℕ) (P : Turn → Type 0) (row : (l : List TrackArea) (x : Row) → P (check_turn s o l x))
      (acts_so : (k : Task) (n : Counts) → Acting k n → P (act_turn g r.act (sight t (job_of code r s o k n) v))) where
    reads_all : (l : List TrackArea) (k : Task) (x : Result Counts Row) → plan_of r (marks_of t) s o ≡ Ok k → gets r.names t k.head k.place ≡ x
        → P (ready_turn g t s o v l (has_read code r s o k x))
    unfolding has_read ready_turn
    reads_all l k (Ok n) e f = acts_so k n (acting k n e f)
    reads_all l k (Err x) e f = row l x

    plans_all : (l : List TrackArea) (p : Result Task Row) → plan_of r (marks_of t) s o ≡ p → P (ready_turn g t s o v l (ready_by t code r s o p))
    unfolding ready_by ready_turn
    plans_all l (Err x) e = row l x
    plans_all l (Ok k) e = reads_all l k _ e refl

    -- what holds of every row, and of every act, holds of a command
    pub obeys_all : P (rule_turn g t code r s o v)
    unfolding rule_turn
    obeys_all = plans_all _ (plan_of r (marks_of t) s o) refl

  -- ---- the record that a write takes

  pub aimed_r0 : (a : Aim) → is_r0 a ≡ true → aimed r (marks_of t) s o a ≡ on_record r o s.head Spot.R0 0
  unfolding aimed is_r0
  aimed_r0 Aim.Stays e = absurd (false≢true e)
  aimed_r0 Aim.HomeAddress e = absurd (false≢true e)
  aimed_r0 Aim.R0 e = refl
  aimed_r0 Aim.NextId e = absurd (false≢true e)
  aimed_r0 Aim.Next e = absurd (false≢true e)
  aimed_r0 Aim.NextForData e = absurd (false≢true e)
  aimed_r0 Aim.NextForKey e = absurd (false≢true e)
  aimed_r0 Aim.Selected e = absurd (false≢true e)

  pub aimed-selected : (a : Aim) → is_selected a ≡ true → aimed r (marks_of t) s o a ≡ on_selected r o s.head o.selection (Err Row.WrongBefore)
  unfolding aimed is_selected
  aimed-selected Aim.Stays e = absurd (false≢true e)
  aimed-selected Aim.HomeAddress e = absurd (false≢true e)
  aimed-selected Aim.R0 e = absurd (false≢true e)
  aimed-selected Aim.NextId e = absurd (false≢true e)
  aimed-selected Aim.Next e = absurd (false≢true e)
  aimed-selected Aim.NextForData e = absurd (false≢true e)
  aimed-selected Aim.NextForKey e = absurd (false≢true e)
  aimed-selected Aim.Selected e = refl

  record_place : (spot : Spot) (k : Task) → on_record r o s.head spot 0 ≡ Ok k → k.place ≡ count_first spot
  unfolding on_record
  record_place spot k e =
      same_place _ k (works_else (both (tallies r.act) (ltb most_tally (o.tally + 0))) Row.SecondIndex _ k e).1

  -- a record is selected, and it works there, on the counts that are recorded there
  pub data Takes (k : Task) (n : Counts) (x : Option Spot) : Type 0 where
    takes : (spot : Spot) → x ≡ Some spot → k.place ≡ count_first spot → n ≡ counts_at (t s.head) (count_first spot) → Takes k n x

  takes_by : (k : Task) (n : Counts) (x : Option Spot) → on_selected r o s.head x (Err Row.WrongBefore) ≡ Ok k
      → n ≡ counts_at (t s.head) k.place → Takes k n x
  unfolding on_selected
  takes_by k n None e c = absurd (refuses_not _ k e)
  takes_by k n (Some spot) e c = let p = record_place spot k e in takes spot refl p (c ∙ ap (counts_at (t s.head)) p)

  pub acting_takes : (k : Task) (n : Counts) → Acting k n → on_selection r ≡ true → Takes k n o.selection
  unfolding on_selection
  acting_takes k n A e =
      takes_by k n o.selection (sym (aimed-selected r.aim (first_of (is_selected r.aim) _ e)) ∙ A.aims)
      (got_counts r.names t k.head k.place n (second_of (is_selected r.aim) _ e) A.sees
      ∙ ap (λ (h : Head). counts_at (t h) k.place) A.here)
