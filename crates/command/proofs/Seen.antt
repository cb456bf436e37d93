-- What is seen when all that is named was readable: the count area's values, the bytes of the key and of the data where they are named, and that these lie
-- on the track.
use Prim.Native.Nat.{ℕ, ◌+◌, ◌<◌, ◌≤◌}
use mathlib.Core.Path.{◌≡◌, refl, sym, ap, ◌∙◌}
use mathlib.Core.Bool.{Bool, true, false, false≢true}
use mathlib.Core.List.{List, [], ◌∷◌, ◌++◌, append-nil}
use native.Mathlib.Omega.{arith}
use native.Mathlib.Decide.{dec_lt}
use lib.ListN.{length, drop}
use lib.Seq.{take-take}
use Rattle.cells.proofs.Laws.{take-bytes_of}
use lib.Dec.{ltb}
use borrow.Author.Tests.{ltb-true, ltb-false, lt-ltb}
use Rattle.cells.specs.Cells.{pick, both, part, bytes_of}
use Rattle.rows.specs.declared.{Row.Row}
use Rattle.areas.specs.declared.{Area.Area, Counts.Counts}
use Rattle.areas.specs.Areas.{area_cells, home_area, count_area, key_area, data_area, readable, area_bytes, counts_at, read_count}
use Rattle.areas.proofs.Laws.{off_track}
use Rattle.pack.specs.declared.{Head.Head}
use Rattle.table.specs.declared.{Names.Names}
use Rattle.turn.specs.Turn.{Tracks, TrackArea}
use Rattle.command.specs.Command.{area_if, named, named_by, on_head, areas_of, all_read, counts_in, gets, Seen, seen, seen_with, seen_of}
use Rattle.std.specs.Prelude.{Some, None, Ok, Err, Result, Option}

-- an area's bytes are those of its first cells
pub area-bytes : (t : List ℕ) (a : Area) → area_bytes t a ≡ bytes_of (part t a.first a.bytes)
unfolding area_bytes area_cells part
area-bytes t a = take-bytes_of a.bytes _ ∙ ap bytes_of (take-take a.bytes (a.bytes + 2) (drop a.first t) (omega arith))

-- ---- an area that is readable lies on the track

pub lies : (t : List ℕ) (a : Area) → readable t a ≡ true → a.first + a.bytes + 2 ≤ length t
lies t a r = go (dec_lt (length t) (a.first + a.bytes + 2))
  where
    go : Dec (length t < a.first + a.bytes + 2) → a.first + a.bytes + 2 ≤ length t
    go (yes h) = absurd (false≢true (sym (off_track t a h) ∙ r))
    go (no h) = omega arith

-- ---- what was got although an area stands before it

was_read : (b : Bool) (x : Result Counts Row) (row : Row) (n : Counts) → pick b x (Err row) ≡ Ok n → (b ≡ true) × (x ≡ Ok n)
was_read true x row n e = (refl, e)
was_read false x row n e = absurd (let z : ◌≡◌ {A = ℕ} 0 1 = cc in omega arith)

sees_same : (m n : Counts) → ◌≡◌ {A = Result Counts Row} (Ok m) (Ok n) → m ≡ n
sees_same m n e = cc

all_same : (t : Tracks) (l : List TrackArea) (m n : Counts) → all_read t l (Ok m) ≡ Ok n → m ≡ n
unfolding all_read
all_same t [] m n e = sees_same m n e
all_same t (a ∷ l) m n e = all_same t l m n (was_read (readable (t a.head) a.area) _ _ n e).1

if_read : (t : Tracks) (h : Head) (b : Bool) (a : Area) (l : List Area) (x : Result Counts Row) (n : Counts) → all_read t (on_head h (area_if b a ++ l)) x ≡ Ok n
    → (b ≡ true → readable (t h) a ≡ true) × (all_read t (on_head h l) x ≡ Ok n)
unfolding all_read area_if on_head
if_read t h true a l x n e = let r = was_read (readable (t h) a) (all_read t (on_head h l) x) _ n e in ((λ _. r.0), r.1)
if_read t h false a l x n e = ((λ q. absurd (false≢true q)), e)

-- ---- a record

module _ (tr : Tracks) (h : Head) (c : ℕ) (key body : Bool) (n : Counts) (e : gets (Names.Count key body) tr h c ≡ Ok n) where
  abbrev t : List ℕ
  t = tr h

  all_read_lem : (readable t (count_area c) ≡ true) × (all_read tr (on_head h (named_by c key body (read_count t c))) (Ok (counts_at t c)) ≡ Ok n)
  unfolding gets areas_of on_head counts_in all_read
  all_read_lem = was_read (readable t (count_area c)) _ _ n e

  pub record_readable : readable t (count_area c) ≡ true
  record_readable = all_read_lem.0

  pub count-lies : c + 11 ≤ length t
  count-lies = omega (arith, lies t (count_area c) record_readable)

  pub record_counts : n ≡ counts_at t c
  record_counts = sym (all_same tr _ (counts_at t c) n all_read_lem.1)

  count-reads : read_count t c ≡ Some n
  unfolding read_count
  count-reads = ap (λ (b : Bool). pick b (Some (counts_at t c)) None) record_readable ∙ ap Some (sym record_counts)

  named_read : all_read tr (on_head h (named c key body n)) (Ok n) ≡ Ok n
  unfolding named_by
  named_read = (λ i. all_read tr (on_head h (named_by c key body (sym count-reads i))) (Ok (record_counts i))) ∙ all_read_lem.1

  each_read : (both key (ltb 0 n.kl) ≡ true → readable t (key_area c n) ≡ true) × (both body (ltb 0 n.dl) ≡ true → readable t (data_area c n) ≡ true)
  unfolding named
  each_read =
      let d = area_if (both body (ltb 0 n.dl)) (data_area c n) in
      let r = if_read tr h (both key (ltb 0 n.kl)) (key_area c n) d (Ok n) n named_read in
      let last : all_read tr (on_head h (d ++ [])) (Ok n) ≡ Ok n = ap (λ (l : List Area). all_read tr (on_head h l) (Ok n)) (append-nil d) ∙ r.1 in
      (r.0, (if_read tr h (both body (ltb 0 n.dl)) (data_area c n) [] (Ok n) n last).0)

  -- the key and the data that were read lie on the track
  pub key_lies : key ≡ true → 0 < n.kl → (key_area c n).first + n.kl ≤ length t
  unfolding key_area
  key_lies k h =
      omega (arith, lies t (key_area c n) (each_read.0 (ap (λ (b : Bool). both b (ltb 0 n.kl)) k ∙ lt-ltb 0 n.kl h)))

  pub body_lies : body ≡ true → 0 < n.dl → (data_area c n).first + n.dl ≤ length t
  unfolding data_area
  body_lies d h =
      omega (arith, lies t (data_area c n) (each_read.1 (ap (λ (b : Bool). both b (ltb 0 n.dl)) d ∙ lt-ltb 0 n.dl h)))

  saw_two : (k d : Bool)
      → seen_of tr (on_head h (area_if k (key_area c n) ++ area_if d (data_area c n))) ≡ seen [] (pick k (area_bytes t (key_area c n)) []) (pick d (area_bytes t (data_area c n)) [])
  unfolding seen_of seen_with area_if on_head key_area data_area
  saw_two true true = refl
  saw_two true false = refl
  saw_two false true = refl
  saw_two false false = refl

  record_seen : seen_of tr (areas_of (Names.Count key body) tr h c)
      ≡ seen [] (pick (both key (ltb 0 n.kl)) (area_bytes t (key_area c n)) []) (pick (both body (ltb 0 n.dl)) (area_bytes t (data_area c n)) [])
  unfolding areas_of on_head seen_of seen_with named_by named
  record_seen =
      ap (λ (r : Option Counts). seen_of tr (on_head h (named_by c key body r))) count-reads
      ∙ saw_two (both key (ltb 0 n.kl)) (both body (ltb 0 n.dl))

  -- the bytes of an area that has so many bytes, if there are any
  some_bytes : (b : Bool) (a : Area) (m : ℕ) → (0 < m → a.bytes ≡ m) → pick (both b (ltb 0 m)) (area_bytes t a) [] ≡ pick b (bytes_of (part t a.first m)) []
  unfolding part bytes_of
  some_bytes false a m h = refl
  some_bytes true a m h = go (ltb 0 m) refl
    where
      go : (x : Bool) → ltb 0 m ≡ x → pick x (area_bytes t a) [] ≡ bytes_of (part t a.first m)
      go true q = area-bytes t a ∙ ap (λ (k : ℕ). bytes_of (part t a.first k)) (h (ltb-true 0 m q))
      go false q = ap (λ (k : ℕ). bytes_of (part t a.first k)) {x = 0} {y = m} (omega (arith, ltb-false 0 m q))

  -- their bytes
  pub record_key : (seen_of tr (areas_of (Names.Count key body) tr h c)).key ≡ pick key (bytes_of (part t (key_area c n).first n.kl)) []
  unfolding key_area
  record_key = ap (λ (x : Seen). x.key) record_seen ∙ some_bytes key (key_area c n) n.kl (λ _. refl)

  pub record_body : (seen_of tr (areas_of (Names.Count key body) tr h c)).body ≡ pick body (bytes_of (part t (data_area c n).first n.dl)) []
  unfolding data_area
  record_body = ap (λ (x : Seen). x.body) record_seen ∙ some_bytes body (data_area c n) n.dl (λ h. omega arith)

-- ---- the home address

pub home_seen : (t : Tracks) (h : Head) (c : ℕ) → (seen_of t (areas_of Names.HomeAddress t h c)).home ≡ bytes_of (part (t h) 0 5)
unfolding areas_of on_head seen_of seen_with
home_seen t h c = area-bytes (t h) home_area

pub home_lies : (t : Tracks) (h : Head) (c : ℕ) (n : Counts) → gets Names.HomeAddress t h c ≡ Ok n → 0 + 5 + 2 ≤ length (t h)
unfolding gets areas_of on_head all_read
home_lies t h c n e = lies (t h) home_area (was_read (readable (t h) home_area) _ _ n e).0
