-- Where a read works, and an update: no read needs a command before it and no mask bars one, so its plan is where its row aims: at the home address, or at
-- the record that it takes. The turn is then that of what is read there.
use Prim.Native.Nat.{ℕ, ◌+◌}
use mathlib.Core.Path.{◌≡◌, refl, sym, ap, ◌∙◌}
use mathlib.Core.Bool.{Bool, true, false, false≢true}
use mathlib.Core.List.{List}
use native.Mathlib.Omega.{arith}
use lib.Dec.{ltb}
use Rattle.cells.specs.Cells.{pick, both}
use Rattle.cells.proofs.Tests.{first_of, second_of, first_picked}
use Rattle.rows.specs.declared.{Row.Row}
use Rattle.areas.specs.declared.{Counts.Counts}
use Rattle.areas.specs.Areas.{count_area, readable}
use Rattle.hunt.specs.declared.{Spot.Spot}
use Rattle.hunt.specs.Hunt.{count_first, next_record}
use Rattle.pack.specs.declared.{Shape.Shape}
use Rattle.held.specs.declared.{Position.Position, Orders.Orders}
use Rattle.table.specs.declared.{Licence.Licence, Bar.Bar, Aim.Aim, Names.Names, Write.Write, Act.Act, Rule.Rule}
use Rattle.table.specs.Table.{rule_of, controls, searches, reads, writes, serves_data, serves_key}
use Rattle.table.proofs.Laws.{every, each, of_every}
use Rattle.turn.specs.Turn.{Tracks, Turn, is_check, check_turn}
use Rattle.command.specs.declared.{Task.Task}
use Rattle.command.specs.Command.{Marks, marks_of, licensed, task, home_place, most_tally, tallies, on_record, on_next, on_selected, to_next, to_served, aimed, unless_barred, plan_of, areas_at, gets, sight, act_turn, job_of, has_read, ready_by, plan_reads, ready_turn, rule_turn, command}
use Rattle.command.proofs.Planned.{is_selected}
use Rattle.claim_track.proofs.Works.{names_home, names_count}
use Rattle.command.proofs.Seen.{record_readable}
use Rattle.claim_track.specs.Lasting.{Permitted}
use Rattle.claim_track.proofs.Works.{permitted_plan}
use Rattle.claim_back.specs.Back.{OnHome, OnRecord, OnNothing, selected, comes_to, by_marker, taken_by}
use Rattle.std.specs.Prelude.{Some, None, Ok, Err, Result, Option}

-- ---- what the rows of the reads, and of the updates, have in common

unfoldable is_any : Licence → Bool
is_any Licence.Any = true
is_any Licence.Look = false
is_any Licence.HomeAddress = false
is_any Licence.WrittenOrEqual = false
is_any Licence.EqualIdOrKey = false
is_any Licence.EqualId = false

unfoldable is_free : Bar → Bool
is_free Bar.Nothing = true
is_free (Bar.Seeks k) = false
is_free (Bar.Writes k) = false

-- a read that takes a record names its count; one at the home address names that
unfoldable fits_aim : Aim → Names → Bool
fits_aim Aim.Stays n = true
fits_aim Aim.HomeAddress n = names_home n
fits_aim Aim.R0 n = names_count n
fits_aim Aim.NextId n = names_count n
fits_aim Aim.Next n = names_count n
fits_aim Aim.NextForData n = names_count n
fits_aim Aim.NextForKey n = names_count n
fits_aim Aim.Selected n = names_count n

unfoldable of_write : Write → Rule → Bool
of_write Write.HomeAddress r = true
of_write Write.R0 r = true
of_write Write.CountKeyData r = true
of_write (Write.Update key) r = both (is_selected r.aim) (names_count r.names)

unfoldable of_act : Act → Rule → Bool
of_act (Act.Control a) r = true
of_act (Act.Search h) r = true
of_act (Act.Read c) r = both (is_any r.licence) (both (is_free r.bar) (fits_aim r.aim r.names))
of_act (Act.Write k) r = of_write k r

unfoldable rowed : Rule → Bool
rowed r = of_act r.act r

rowed_rule : (c : ℕ) → rowed (rule_of c) ≡ true
unfolding rowed of_act of_write is_any is_free fits_aim is_selected names_home names_count every each controls searches reads writes
rowed_rule c = of_every rowed refl c

act_row : (a : Act) (c : ℕ) → (rule_of c).act ≡ a → of_act a (rule_of c) ≡ true
unfolding rowed
act_row a c act = ap (λ (x : Act). of_act x (rule_of c)) (sym act) ∙ rowed_rule c

any-licensed : (l : Licence) (o : Orders) → is_any l ≡ true → licensed l o ≡ true
unfolding is_any licensed
any-licensed Licence.Any o e = refl
any-licensed Licence.Look o e = absurd (false≢true e)
any-licensed Licence.HomeAddress o e = absurd (false≢true e)
any-licensed Licence.WrittenOrEqual o e = absurd (false≢true e)
any-licensed Licence.EqualIdOrKey o e = absurd (false≢true e)
any-licensed Licence.EqualId o e = absurd (false≢true e)

free_passes : (b : Bar) (n : ℕ) (p : Result Task Row) → is_free b ≡ true → unless_barred b n p ≡ p
unfolding is_free unless_barred
free_passes Bar.Nothing n p e = refl
free_passes (Bar.Seeks k) n p e = absurd (false≢true e)
free_passes (Bar.Writes k) n p e = absurd (false≢true e)

-- ---- where a read works

module _ (code : ℕ) (counted : Bool) (act : (rule_of code).act ≡ Act.Read counted) where
  abbrev r : Rule
  r = rule_of code

  row : both (is_any r.licence) (both (is_free r.bar) (fits_aim r.aim r.names)) ≡ true
  unfolding of_act
  row = act_row (Act.Read counted) code act

  names_fit : fits_aim r.aim r.names ≡ true
  names_fit = second_of (is_free r.bar) _ (second_of (is_any r.licence) _ row)

  read_aims : (m : Marks) (s : Position) (o : Orders) → plan_of r m s o ≡ aimed r m s o r.aim
  unfolding plan_of
  read_aims m s o =
      first_picked (licensed r.licence o) _ _ (any-licensed r.licence o (first_of (is_any r.licence) _ row))
      ∙ free_passes r.bar o.mask _ (first_of (is_free r.bar) _ (second_of (is_any r.licence) _ row))

  read_quiet : tallies r.act ≡ false
  unfolding tallies
  read_quiet = ap tallies act

-- ---- the record that it takes

nothing_else : {A : Type 0} (spot : Spot) → OnNothing ≡ OnRecord spot → A
nothing_else spot e = absurd (let z : ◌≡◌ {A = ℕ} 0 1 = cc in omega arith)

home_else : {A : Type 0} (spot : Spot) → OnHome ≡ OnRecord spot → A
home_else spot e = absurd (let z : ◌≡◌ {A = ℕ} 0 1 = cc in omega arith)

same_record : (p q : Spot) → OnRecord p ≡ OnRecord q → p ≡ q
same_record p q e = cc

module _ (r : Rule) (m : Marks) (s : Position) (o : Orders) (quiet : tallies r.act ≡ false) where
  abbrev works_on : Spot → Result Task Row
  works_on spot = Ok (task s.head (count_first spot) (pick r.selects (Some spot) None) 0)

  pub on_record_lem : (spot : Spot) (n : ℕ) → on_record r o s.head spot n ≡ works_on spot
  unfolding on_record
  on_record_lem spot n =
      ap (λ (b : Bool). pick (both b (ltb most_tally (o.tally + n))) (Err Row.SecondIndex)
      (Ok (task s.head (count_first spot) (pick r.selects (Some spot) None) (pick b (o.tally + n) 0)))) quiet

  module _ (spot : Spot) where
    on_next_lem : (x : Option (Spot × ℕ)) → comes_to x ≡ OnRecord spot → on_next r o s.head x ≡ works_on spot
    unfolding comes_to on_next
    on_next_lem (Some (p, n)) e = on_record_lem p n ∙ ap works_on (same_record p spot e)
    on_next_lem None e = nothing_else spot e

    on_selected_lem : (x : Option Spot) (other : Result Task Row) → selected x ≡ OnRecord spot → on_selected r o s.head x other ≡ works_on spot
    unfolding selected on_selected
    on_selected_lem None other e = nothing_else spot e
    on_selected_lem (Some p) other e = on_record_lem p 0 ∙ ap works_on (same_record p spot e)

    to_next_lem : by_marker (m s.head) s ≡ OnRecord spot → to_next r m s o ≡ works_on spot
    unfolding by_marker to_next
    to_next_lem e = on_next_lem (next_record (m s.head) s.place) e

    to_served_lem : (b : Bool) → pick b (selected o.selection) (by_marker (m s.head) s) ≡ OnRecord spot → to_served r m s o b ≡ works_on spot
    unfolding to_served
    to_served_lem true e = on_selected_lem o.selection _ e
    to_served_lem false e = to_next_lem e

    pub takes_record_lem : (a : Aim) → taken_by a (m s.head) s o ≡ OnRecord spot → aimed r m s o a ≡ works_on spot
    unfolding taken_by aimed
    takes_record_lem Aim.Stays e = nothing_else spot e
    takes_record_lem Aim.HomeAddress e = home_else spot e
    takes_record_lem Aim.R0 e = on_record_lem Spot.R0 0 ∙ ap works_on (same_record Spot.R0 spot e)
    takes_record_lem Aim.NextId e = nothing_else spot e
    takes_record_lem Aim.Next e = to_next_lem e
    takes_record_lem Aim.NextForData e = to_served_lem (serves_data (rule_of o.before).serves) e
    takes_record_lem Aim.NextForKey e = to_served_lem (serves_key (rule_of o.before).serves) e
    takes_record_lem Aim.Selected e = nothing_else spot e

-- .. or the home address
record_never : {A : Type 0} (spot : Spot) → OnRecord spot ≡ OnHome → A
record_never spot e = absurd (let z : ◌≡◌ {A = ℕ} 0 1 = cc in omega arith)

nothing_never : {A : Type 0} → OnNothing ≡ OnHome → A
nothing_never e = absurd (let z : ◌≡◌ {A = ℕ} 0 1 = cc in omega arith)

next_never : {A : Type 0} (x : Option (Spot × ℕ)) → comes_to x ≡ OnHome → A
unfolding comes_to
next_never (Some (p, n)) e = record_never p e
next_never None e = nothing_never e

selected_never : {A : Type 0} (x : Option Spot) → selected x ≡ OnHome → A
unfolding selected
selected_never None e = nothing_never e
selected_never (Some p) e = record_never p e

module _ (m : List Bool) (s : Position) (o : Orders) where
  served_never : {A : Type 0} (b : Bool) → pick b (selected o.selection) (by_marker m s) ≡ OnHome → A
  unfolding by_marker
  served_never true e = selected_never o.selection e
  served_never false e = next_never (next_record m s.place) e

  pub takes_home : (a : Aim) → taken_by a m s o ≡ OnHome → a ≡ Aim.HomeAddress
  unfolding taken_by
  takes_home Aim.Stays e = nothing_never e
  takes_home Aim.HomeAddress e = refl
  takes_home Aim.R0 e = record_never Spot.R0 e
  takes_home Aim.NextId e = nothing_never e
  takes_home Aim.Next e = served_never false e
  takes_home Aim.NextForData e = served_never (serves_data (rule_of o.before).serves) e
  takes_home Aim.NextForKey e = served_never (serves_key (rule_of o.before).serves) e
  takes_home Aim.Selected e = nothing_never e

  -- a read that takes a record names its count
  record_names : (a : Aim) (n : Names) (spot : Spot) → taken_by a m s o ≡ OnRecord spot → fits_aim a n ≡ true → names_count n ≡ true
  unfolding taken_by fits_aim
  record_names Aim.Stays n spot e f = nothing_else spot e
  record_names Aim.HomeAddress n spot e f = home_else spot e
  record_names Aim.R0 n spot e f = f
  record_names Aim.NextId n spot e f = f
  record_names Aim.Next n spot e f = f
  record_names Aim.NextForData n spot e f = f
  record_names Aim.NextForKey n spot e f = f
  record_names Aim.Selected n spot e f = f

pub record NamesCount (n : Names) : Type 0 where
  pub key : Bool
  pub body : Bool
  pub is : n ≡ Names.Count key body

names_count_lem : (n : Names) → names_count n ≡ true → NamesCount n
unfolding names_count
names_count_lem Names.Nothing e = absurd (false≢true e)
names_count_lem Names.HomeAddress e = absurd (false≢true e)
names_count_lem (Names.Count key body) e = record { key = key; body = body; is = refl }

names_home_lem : (n : Names) → names_home n ≡ true → n ≡ Names.HomeAddress
unfolding names_home
names_home_lem Names.Nothing e = absurd (false≢true e)
names_home_lem Names.HomeAddress e = refl
names_home_lem (Names.Count key body) e = absurd (false≢true e)

-- ---- a read, by what it takes

module _ (code : ℕ) (counted : Bool) (act : (rule_of code).act ≡ Act.Read counted) (m : Marks) (s : Position) (o : Orders) where
  pub record_plan : (spot : Spot) → taken_by (rule_of code).aim (m s.head) s o ≡ OnRecord spot
      → plan_of (rule_of code) m s o ≡ Ok (task s.head (count_first spot) (pick (rule_of code).selects (Some spot) None) 0)
  record_plan spot e = read_aims code counted act m s o ∙ takes_record_lem (rule_of code) m s o (read_quiet code counted act) spot (rule_of code).aim e

  pub record_named : (spot : Spot) → taken_by (rule_of code).aim (m s.head) s o ≡ OnRecord spot → NamesCount (rule_of code).names
  record_named spot e =
      names_count_lem (rule_of code).names (record_names (m s.head) s o (rule_of code).aim (rule_of code).names spot e (names_fit code counted act))

  module _ (e : taken_by (rule_of code).aim (m s.head) s o ≡ OnHome) where
    aims_home : (rule_of code).aim ≡ Aim.HomeAddress
    aims_home = takes_home (m s.head) s o (rule_of code).aim e

    pub home_plan : plan_of (rule_of code) m s o ≡ Ok (task s.head home_place None 0)
    unfolding aimed
    home_plan = read_aims code counted act m s o ∙ ap (aimed (rule_of code) m s o) aims_home

    pub home_named : (rule_of code).names ≡ Names.HomeAddress
    unfolding fits_aim
    home_named =
        names_home_lem (rule_of code).names (ap (λ (a : Aim). fits_aim a (rule_of code).names) (sym aims_home) ∙ names_fit code counted act)

-- ---- the turn, from a plan that works

module _ (g : Shape) (t : Tracks) (s : Position) (o : Orders) (code : ℕ) (v : List ℕ) (k : Task)
    (plan : plan_of (rule_of code) (marks_of t) s o ≡ Ok k) where
  abbrev rule : Rule
  rule = rule_of code

  got_turn : (x : Result Counts Row) → gets rule.names t k.head k.place ≡ x
      → command g t s o code v ≡ ready_turn g t s o v (areas_at rule.names t k) (has_read code rule s o k x)
  unfolding command rule_turn ready_by plan_reads
  got_turn x e =
      ap (λ (p : Result Task Row). ready_turn g t s o v (plan_reads t rule p) (ready_by t code rule s o p)) plan
      ∙ ap (λ (y : Result Counts Row). ready_turn g t s o v (areas_at rule.names t k) (has_read code rule s o k y)) e

  pub sees_turn : (n : Counts) → gets rule.names t k.head k.place ≡ Ok n
      → command g t s o code v ≡ act_turn g rule.act (sight t (job_of code rule s o k n) v)
  unfolding ready_turn has_read
  sees_turn n e = got_turn (Ok n) e

  pub fails_turn : (row : Row) → gets rule.names t k.head k.place ≡ Err row
      → command g t s o code v ≡ check_turn s o (areas_at rule.names t k) row
  unfolding ready_turn has_read
  fails_turn row e = got_turn (Err row) e

-- ---- an update has read the count of the record selected

selected_aims : (r : Rule) (m : Marks) (s : Position) (o : Orders) (a : Aim) → is_selected a ≡ true
    → aimed r m s o a ≡ on_selected r o s.head o.selection (Err Row.WrongBefore)
unfolding is_selected aimed
selected_aims r m s o Aim.Stays e = absurd (false≢true e)
selected_aims r m s o Aim.HomeAddress e = absurd (false≢true e)
selected_aims r m s o Aim.R0 e = absurd (false≢true e)
selected_aims r m s o Aim.NextId e = absurd (false≢true e)
selected_aims r m s o Aim.Next e = absurd (false≢true e)
selected_aims r m s o Aim.NextForData e = absurd (false≢true e)
selected_aims r m s o Aim.NextForKey e = absurd (false≢true e)
selected_aims r m s o Aim.Selected e = refl

module _ (g : Shape) (t : Tracks) (s : Position) (o : Orders) (code : ℕ) (v : List ℕ) (key : Bool) (act : (rule_of code).act ≡ Act.Write (Write.Update key))
    (permitted : Permitted (rule_of code) o) (spot : Spot) (is : o.selection ≡ Some spot) where
  update_row : both (is_selected (rule_of code).aim) (names_count (rule_of code).names) ≡ true
  unfolding of_act of_write
  update_row = act_row (Act.Write (Write.Update key)) code act

  update_quiet : tallies (rule_of code).act ≡ false
  unfolding tallies
  update_quiet = ap tallies act

  abbrev k : Task
  k = task s.head (count_first spot) (pick (rule_of code).selects (Some spot) None) 0

  update_plan : plan_of (rule_of code) (marks_of t) s o ≡ Ok k
  unfolding on_selected
  update_plan =
      permitted_plan (rule_of code) (marks_of t) s o permitted
      ∙ selected_aims (rule_of code) (marks_of t) s o (rule_of code).aim (first_of (is_selected (rule_of code).aim) _ update_row)
      ∙ ap (λ (x : Option Spot). on_selected (rule_of code) o s.head x (Err Row.WrongBefore)) is
      ∙ on_record_lem (rule_of code) (marks_of t) s o update_quiet spot 0

  pub update_read : is_check (command g t s o code v).ending ≡ false → readable (t s.head) (count_area (count_first spot)) ≡ true
  unfolding is_check check_turn
  update_read done = go (gets (rule_of code).names t s.head (count_first spot)) refl
    where
      go : (x : Result Counts Row) → gets (rule_of code).names t s.head (count_first spot) ≡ x → readable (t s.head) (count_area (count_first spot)) ≡ true
      go (Ok n) e =
          let N : NamesCount (rule_of code).names = names_count_lem (rule_of code).names (second_of (is_selected (rule_of code).aim) _ update_row) in
          record_readable t s.head (count_first spot) N.key N.body n
          (ap (λ (x : Names). gets x t s.head (count_first spot)) (sym N.is) ∙ e)
      go (Err row) e =
          absurd (false≢true (sym done ∙ ap (λ (x : Turn). is_check x.ending) (fails_turn g t s o code v k update_plan row e)))
