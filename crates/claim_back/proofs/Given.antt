-- A read of a record whose areas are readable and hold what was sent gives just that; one that names a key that is not readable ends in Data Check. Why: it
-- reads the count, then each area that it names and that is there, and gives their bytes in this order.
use Prim.Native.Nat.{ℕ, ◌<◌}
use mathlib.Core.Path.{◌≡◌, refl, sym, ap, ◌∙◌}
use mathlib.Core.Bool.{Bool, true, false}
use mathlib.Core.List.{List, [], ◌++◌}
use native.Mathlib.Omega.{arith}
use lib.ListN.{length}
use lib.Dec.{ltb, eqb}
use borrow.Author.Tests.{ltb-true, ltb-false, lt-ltb}
use Rattle.cells.specs.Cells.{pick, both, part, bytes_of}
use Rattle.cells.proofs.Tests.{first_of, second_of, first_picked, second_picked, both_of}
use Rattle.areas.specs.declared.{Area.Area, Part.Part, Counts.Counts}
use Rattle.areas.specs.Areas.{home_area, count_area, key_area, data_area, readable, row_of, area_bytes, counts_at, read_count}
use Rattle.pack.specs.declared.{Head.Head, Shape.Shape}
use Rattle.held.specs.declared.{Position.Position, Orders.Orders}
use Rattle.table.specs.declared.{Names.Names, Act.Act}
use Rattle.table.specs.Table.{rule_of}
use Rattle.turn.specs.declared.Ending.TheVariants.{Normal, Exception}
use Rattle.turn.specs.Turn.{Tracks, Gives, Turn, check_turn}
use Rattle.command.specs.declared.{Task.Task}
use Rattle.command.specs.Command.{marks_of, plan_of, area_if, named, named_by, on_head, areas_of, areas_at, all_read, no_counts, counts_in, gets, seen_with, seen_of, areas_read, sight, end_turn_at, end_turn, ending_of, count_moved, offered, read_turn, act_turn, job_of, command}
use Rattle.command.proofs.Seen.{area-bytes, record_key, record_body}
use Rattle.claim_track.specs.Lasting.{ReadsAs}
use Rattle.claim_back.specs.Back.{Sent, asked}
use Rattle.claim_back.proofs.Plans.{NamesCount, sees_turn, fails_turn}
use Rattle.std.specs.Prelude.{Some, None, Ok, Err, Result}
use Rattle.rows.specs.declared.{Row.Row}

-- the record whose count area is at c, which says n, holds what was sent: all of it, or all but a key that was passed over
pub record Holds (t : List ℕ) (c : ℕ) (n : Counts) (x : Sent) (keyed : Bool) : Type 0 where
  pub count : readable t (count_area c) ≡ true
  pub counts : counts_at t c ≡ n
  pub moved : count_moved n ≡ x.count
  pub key : keyed ≡ true → 0 < n.kl → ReadsAs t (key_area c n) x.key
  pub keyless : n.kl ≡ 0 → x.key ≡ []
  pub body : 0 < n.dl → ReadsAs t (data_area c n) x.body
  pub bodyless : n.dl ≡ 0 → x.body ≡ []
  pub long : length x.body ≡ n.dl

-- ---- what is read

module _ (tr : Tracks) (h : Head) where
  -- an area that is readable, if it is named
  if_read : (b : Bool) (a : Area) (l : List Area) (y : Result Counts Row) → (b ≡ true → readable (tr h) a ≡ true)
      → all_read tr (on_head h (area_if b a ++ l)) y ≡ all_read tr (on_head h l) y
  unfolding all_read area_if on_head
  if_read true a l y f = first_picked (readable (tr h) a) (all_read tr (on_head h l) y) _ (f refl)
  if_read false a l y f = refl

  last_read : (b : Bool) (a : Area) (y : Result Counts Row) → (b ≡ true → readable (tr h) a ≡ true) → all_read tr (on_head h (area_if b a)) y ≡ y
  unfolding all_read area_if on_head
  last_read true a y f = first_picked (readable (tr h) a) y _ (f refl)
  last_read false a y f = refl

  module _ (c : ℕ) (n : Counts) (count : readable (tr h) (count_area c) ≡ true) (counts : counts_at (tr h) c ≡ n) (key body : Bool) where
    -- the count first
    count_read : gets (Names.Count key body) tr h c ≡ all_read tr (on_head h (named c key body n)) (Ok n)
    unfolding gets areas_of on_head all_read counts_in read_count named_by
    count_read =
        first_picked (readable (tr h) (count_area c)) _ _ count
        ∙ ap (λ (b : Bool). all_read tr (on_head h (named_by c key body (pick b (Some (counts_at (tr h) c)) None))) (Ok (counts_at (tr h) c))) count
        ∙ ap (λ (m : Counts). all_read tr (on_head h (named c key body m)) (Ok m)) counts

    pub record_sees : (both key (ltb 0 n.kl) ≡ true → readable (tr h) (key_area c n) ≡ true)
        → (both body (ltb 0 n.dl) ≡ true → readable (tr h) (data_area c n) ≡ true) → gets (Names.Count key body) tr h c ≡ Ok n
    unfolding named
    record_sees p q =
        count_read ∙ if_read (both key (ltb 0 n.kl)) (key_area c n) (area_if (both body (ltb 0 n.dl)) (data_area c n)) (Ok n) p
        ∙ last_read (both body (ltb 0 n.dl)) (data_area c n) (Ok n) q

    key_fails : both key (ltb 0 n.kl) ≡ true → readable (tr h) (key_area c n) ≡ false → gets (Names.Count key body) tr h c ≡ Err (row_of Part.Key)
    unfolding named area_if on_head all_read key_area
    key_fails k r =
        count_read
        ∙ ap (λ (b : Bool). all_read tr (on_head h (area_if b (key_area c n) ++ area_if (both body (ltb 0 n.dl)) (data_area c n))) (Ok n)) k
        ∙ second_picked (readable (tr h) (key_area c n)) _ _ r

-- ---- the bytes

pick_same : (b : Bool) (x y : List ℕ) → (b ≡ true → x ≡ y) → pick b (pick b x []) [] ≡ pick b y []
pick_same true x y f = f refl
pick_same false x y f = refl

-- so many bytes of an area that has them, or none
some_or_none : (t : List ℕ) (a : Area) (m : ℕ) (v : List ℕ) → (0 < m → a.bytes ≡ m) → (m ≡ 0 → v ≡ []) → (0 < m → ReadsAs t a v)
    → bytes_of (part t a.first m) ≡ v
unfolding part bytes_of
some_or_none t a m v size none some = go (ltb 0 m) refl
  where
    go : (b : Bool) → ltb 0 m ≡ b → bytes_of (part t a.first m) ≡ v
    go true e =
        let h : 0 < m = ltb-true 0 m e in
        ap (λ (k : ℕ). bytes_of (part t a.first k)) (sym (size h)) ∙ sym (area-bytes t a) ∙ (some h).bytes
    go false e =
        let z : m ≡ 0 = omega (arith, ltb-false 0 m e) in
        ap (λ (k : ℕ). bytes_of (part t a.first k)) z ∙ sym (none z)

module _ (tr : Tracks) (h : Head) (c : ℕ) (n : Counts) (x : Sent) (keyed : Bool) (H : Holds (tr h) c n x keyed) (key body : Bool)
    (knows : key ≡ true → keyed ≡ true) where
  pub holds_sees : gets (Names.Count key body) tr h c ≡ Ok n
  holds_sees =
      record_sees tr h c n H.count H.counts key body
      (λ e. (H.key (knows (first_of key _ e)) (ltb-true 0 n.kl (second_of key _ e))).reads)
      (λ e. (H.body (ltb-true 0 n.dl (second_of body _ e))).reads)

  key_bytes : key ≡ true → bytes_of (part (tr h) (key_area c n).first n.kl) ≡ x.key
  unfolding key_area
  key_bytes e = some_or_none (tr h) (key_area c n) n.kl x.key (λ _. refl) H.keyless (H.key (knows e))

  body_bytes : bytes_of (part (tr h) (data_area c n).first n.dl) ≡ x.body
  unfolding data_area
  body_bytes = some_or_none (tr h) (data_area c n) n.dl x.body (λ p. omega arith) H.bodyless H.body

  pub holds_offered : (counted : Bool)
      → offered (Names.Count key body) counted n (seen_of tr (areas_of (Names.Count key body) tr h c)) ≡ asked (Names.Count key body) counted x
  unfolding offered asked
  holds_offered counted =
      let k = ap (λ (z : List ℕ). pick key z []) (record_key tr h c key body n holds_sees) ∙ pick_same key _ x.key key_bytes in
      let b = ap (λ (z : List ℕ). pick body z []) (record_body tr h c key body n holds_sees) ∙ pick_same body _ x.body (λ _. body_bytes) in
      λ i. pick counted (H.moved i) [] ++ (k i ++ b i)

-- ---- the turn

-- a turn gives v; Unit Exception where its row has it for DL = 0 and no data were sent
pub record Gave (excepts : Bool) (x : Sent) (v : List ℕ) (y : Turn) : Type 0 where
  pub ending : y.ending ≡ pick (both excepts (eqb (length x.body) 0)) Exception Normal
  pub moves : y.moves ≡ Gives v

module _ (g : Shape) (tr : Tracks) (s : Position) (o : Orders) (code : ℕ) (v : List ℕ) (k : Task)
    (plan : plan_of (rule_of code) (marks_of tr) s o ≡ Ok k) (counted : Bool) (act : (rule_of code).act ≡ Act.Read counted) where
  abbrev names : Names
  names = (rule_of code).names

  gave : (n : Counts) (x : Sent) (w : List ℕ) → gets names tr k.head k.place ≡ Ok n → length x.body ≡ n.dl
      → offered names counted n (seen_of tr (areas_at names tr k)) ≡ w → Gave (rule_of code).excepts x w (command g tr s o code v)
  unfolding act_turn read_turn end_turn end_turn_at ending_of sight areas_read
  gave n x w e l q =
      let is = sees_turn g tr s o code v k plan n e ∙ ap (λ (a : Act). act_turn g a (sight tr (job_of code (rule_of code) s o k n) v)) act in
      record {
        ending = ap (λ (y : Turn). y.ending) is ∙ ap (λ (d : ℕ). pick (both (rule_of code).excepts (eqb d 0)) Exception Normal) (sym l);
        moves = ap (λ (y : Turn). y.moves) is ∙ ap Gives q;
      }

  -- of a record
  pub record_gave : (N : NamesCount names) (n : Counts) (x : Sent) (keyed : Bool) → Holds (tr k.head) k.place n x keyed
      → (N.key ≡ true → keyed ≡ true) → Gave (rule_of code).excepts x (asked names counted x) (command g tr s o code v)
  record_gave N n x keyed H knows =
      gave n x (asked names counted x)
      (ap (λ (z : Names). gets z tr k.head k.place) N.is ∙ holds_sees tr k.head k.place n x keyed H N.key N.body knows)
      H.long
      (ap (λ (z : Names). offered z counted n (seen_of tr (areas_of z tr k.head k.place))) N.is
      ∙ holds_offered tr k.head k.place n x keyed H N.key N.body knows counted ∙ ap (λ (z : Names). asked z counted x) (sym N.is))

  -- of a record whose key is named and cannot be read
  pub key_checked : (N : NamesCount names) (n : Counts) → readable (tr k.head) (count_area k.place) ≡ true → counts_at (tr k.head) k.place ≡ n
      → N.key ≡ true → 0 < n.kl → readable (tr k.head) (key_area k.place n) ≡ false
      → command g tr s o code v ≡ check_turn s o (areas_at names tr k) (row_of Part.Key)
  key_checked N n count counts key some lost =
      fails_turn g tr s o code v k plan (row_of Part.Key)
      (ap (λ (z : Names). gets z tr k.head k.place) N.is
      ∙ key_fails tr k.head k.place n count counts N.key N.body (both_of key (lt-ltb 0 n.kl some)) lost)

  -- of the home address
  home_sees : readable (tr k.head) home_area ≡ true → gets Names.HomeAddress tr k.head k.place ≡ Ok no_counts
  unfolding gets areas_of on_head all_read counts_in
  home_sees r = first_picked (readable (tr k.head) home_area) (Ok no_counts) _ r

  home_offered : offered Names.HomeAddress counted no_counts (seen_of tr (areas_at Names.HomeAddress tr k)) ≡ area_bytes (tr k.head) home_area
  unfolding offered areas_of on_head seen_of seen_with
  home_offered = refl

  pub home_gave : names ≡ Names.HomeAddress → (x : Sent) → x.body ≡ [] → ReadsAs (tr k.head) home_area x.home
      → Gave (rule_of code).excepts x (asked names counted x) (command g tr s o code v)
  unfolding asked
  home_gave is x none R =
      gave no_counts x (asked names counted x)
      (ap (λ (z : Names). gets z tr k.head k.place) is ∙ home_sees R.reads)
      (ap length none)
      (ap (λ (z : Names). offered z counted no_counts (seen_of tr (areas_of z tr k.head k.place))) is
      ∙ home_offered ∙ R.bytes ∙ ap (λ (z : Names). asked z counted x) (sym is))
