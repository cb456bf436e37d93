-- Laws of areas: an area off the track is not readable; one on it is readable where its cells are good; a count area's values are
-- those of its cells; how many cells a record takes.
use Prim.Native.Nat.{ℕ, zero, suc, ◌+◌, ◌-◌, ◌*◌, ◌/◌, ◌%◌, ◌<◌, ◌≤◌, ◌^◌, min}
use mathlib.Core.Path.{◌≡◌, refl, sym, ap, ap₂, ◌∙◌}
use mathlib.Core.Bool.{Bool, false}
use mathlib.Core.List.{List}
use native.Mathlib.Omega.{arith}
use lib.ListN.{length, get_or, take, drop, length-take, length-drop}
use lib.Seq.{get_or-take, get_or-drop}
use native.Mathlib.Nat.{add-zero, add_assoc}
use lib.Dec.{lit<}
use borrow.Author.Tests.{ne_eqb, eq-eqb}
use Rattle.cells.specs.Cells.{pick, both, part, byte_of, bytes_of, all_bytes}
use Rattle.cells.proofs.Laws.{get_or-bytes_of}
use Rattle.house_check.specs.Check.{agrees, good_cells}
use Rattle.areas.specs.declared.{Area.Area, Counts.Counts}
use Rattle.areas.specs.Areas.{home_area, home_flag, area_cells, readable, area_bytes, count_area, counts_by, counts_of, counts_at, key_cells, flag_after}
use Rattle.areas.specs.Parts.{part_no, part_named}
use mathlib.Core.Logic.{◌⊎◌, inl, inr}
use denote.Bor.{Bor}
use Rattle.std.specs.Prelude.{Some, None, Option, MatchResult}
use lib.Bits.{bit_and, bit_or}
use Rattle.std.proofs.lemmas.Grind.{and_numeral, and_high_numeral}
use Rattle.std.proofs.lemmas.Nat.{or_shifted}
use Rattle.std.specs.Option.{MatchOption}
use Rattle.std.specs.List.{slice_range}

-- ---- readable

pub length-area_cells : (t : List ℕ) (a : Area) → length (area_cells t a) ≡ min (a.bytes + 2) (length t - a.first)
unfolding area_cells part
length-area_cells t a = simp (length-take, length-drop)

pub off_track : (t : List ℕ) (a : Area) → length t < a.first + a.bytes + 2 → readable t a ≡ false
unfolding readable good_cells
off_track t a h =
    ap (λ (b : Bool). both b (both (all_bytes (area_cells t a)) (agrees a.bytes (bytes_of (area_cells t a)))))
    (ne_eqb (length (area_cells t a)) (a.bytes + 2) (λ e. omega (arith, length-area_cells t a)))

-- the cells that are lent to be looked at
pub on_track_lem : (t : List ℕ) (a : Area) (n : ℕ) → n ≡ a.bytes + 2 → a.first + a.bytes + 2 ≤ length t
    → good_cells (length (take n (drop a.first t)) - 2) (take n (drop a.first t)) ≡ readable t a
unfolding readable area_cells part
on_track_lem t a n e h =
    let l : length (take n (drop a.first t)) - 2 ≡ a.bytes = simp (length-take, length-drop) (omega arith) in
    ap₂ good_cells l (ap (λ (m : ℕ). take m (drop a.first t)) e)

-- by the cells that `get` lends, if it lends any
pub readable_lent : (t : List ℕ) (a : Area) (g : Option (Bor (List ℕ))) (r : Bool)
    → MatchOption g ((a.first + a.bytes + 2 < a.first) ⊎ (length t < a.first + a.bytes + 2))
    (λ x. (a.first ≤ a.first + a.bytes + 2) × (a.first + a.bytes + 2 ≤ length t) × (x.now ≡ slice_range t a.first (a.first + a.bytes + 2))
    × (length x.now + a.first ≡ a.first + a.bytes + 2))
    → MatchOption g (r ≡ false) (λ x. r ≡ good_cells (length x.now - 2) x.now) → r ≡ readable t a
readable_lent t a None r (inl h) p = absurd (omega arith)
readable_lent t a None r (inr h) p = p ∙ sym (off_track t a h)
readable_lent t a (Some x) r (l, h, e, n) p =
    p ∙ ap (λ (v : List ℕ). good_cells (length v - 2) v) e ∙ on_track_lem t a (a.first + a.bytes + 2 - a.first) (omega arith) h

-- ---- a count area's values

-- byte i of an area
pub area_byte : (t : List ℕ) (a : Area) (i : ℕ) → i < a.bytes → get_or (area_bytes t a) i 0 ≡ byte_of (get_or t (a.first + i) 0)
unfolding area_bytes area_cells part
area_byte t a i h =
    get_or-take a.bytes (bytes_of (take (a.bytes + 2) (drop a.first t))) i 0 h
    ∙ get_or-bytes_of (take (a.bytes + 2) (drop a.first t)) i
    ∙ ap byte_of (get_or-take (a.bytes + 2) (drop a.first t) i 0 (omega arith) ∙ get_or-drop a.first t i 0)

-- of the count area at c
pub count_byte : (t : List ℕ) (c i : ℕ) → i < 9 → get_or (area_bytes t (count_area c)) i 0 ≡ byte_of (get_or t (c + i) 0)
count_byte t c i h = area_byte t (count_area c) i h

-- the home address's flag
pub home_flag_lem : (t : List ℕ) → home_flag t ≡ byte_of (get_or t 0 0)
home_flag_lem t = area_byte t home_area 0 (lit< tt)

-- the count area's values are those of its cells
module _ (t : List ℕ) (c : ℕ) where
  behind : (k : ℕ) → k < 8 → byte_of (get_or t (c + 1 + k) 0) ≡ get_or (area_bytes t (count_area c)) (1 + k) 0
  behind k h = ap (λ (j : ℕ). byte_of (get_or t j 0)) (add_assoc c 1 k) ∙ sym (count_byte t c (1 + k) (omega arith))

  two : (k : ℕ) → k < 7 → byte_of (get_or t (c + 1 + k) 0) * 256 + byte_of (get_or t (c + 1 + (k + 1)) 0)
      ≡ get_or (area_bytes t (count_area c)) (1 + k) 0 * 256 + get_or (area_bytes t (count_area c)) (1 + (k + 1)) 0
  two k h = ap₂ (λ (y z : ℕ). y * 256 + z) (behind k (omega arith)) (behind (k + 1) (omega arith))

  counts_there : (flag : ℕ) → flag ≡ byte_of (get_or t c 0) → counts_by flag (λ i. byte_of (get_or t (c + 1 + i) 0)) ≡ counts_at t c
  unfolding counts_by counts_at counts_of
  counts_there flag p = λ i. record {
    flag = (p ∙ ap (λ (j : ℕ). byte_of (get_or t j 0)) (sym (add-zero c)) ∙ sym (count_byte t c 0 (lit< tt))) i;
    cc = two 0 (lit< tt) i;
    hh = two 2 (lit< tt) i;
    r = behind 4 (lit< tt) i;
    kl = behind 5 (lit< tt) i;
    dl = two 6 (lit< tt) i;
  }

pub counts_are : (t : List ℕ) (c first flag : ℕ) (n : Counts) → first ≡ c → flag ≡ byte_of (get_or t first 0)
    → n ≡ counts_by flag (λ i. byte_of (get_or t (first + 1 + i) 0)) → n ≡ counts_at t c
counts_are t c first flag n e p q =
    q ∙ counts_there t first flag p ∙ ap (counts_at t) e

-- ---- how many cells

pub no_key : (n : Counts) → n.kl ≡ 0 → key_cells n ≡ 0
unfolding key_cells
no_key n e = ap (λ (b : Bool). pick b 0 (n.kl + 2)) (eq-eqb n.kl 0 e)

pub some_key : (n : Counts) → (n.kl ≡ 0 → ⊥) → key_cells n ≡ n.kl + 2
unfolding key_cells
some_key n e = ap (λ (b : Bool). pick b 0 (n.kl + 2)) (ne_eqb n.kl 0 e)

-- ---- a flag byte: the odd/even bit above the rest and the copied ones below share none

pub flag_bits : (b : ℕ) → b < 256 → bit_or (bit_and (255 - b) 128) (bit_and b 3) ≡ flag_after b
unfolding flag_after
flag_bits b h =
    let high : bit_and (255 - b) 128 ≡ (1 - b / 128) * 2 ^ 7 = omega (arith, and_high_numeral (255 - b) 127 refl (omega arith)) in
    rw (high, and_numeral b 2 refl) (or_shifted (1 - b / 128) 7 (b % 4) (omega arith))

-- ---- a part by its number

pub names_part : (p : ℕ) → MatchResult (part_named p) (λ part. part_no part ≡ p) (λ e. (e.0 ≡ p) × (3 < p))
unfolding part_named
names_part zero = refl
names_part (suc zero) = refl
names_part (suc (suc zero)) = refl
names_part (suc (suc (suc zero))) = refl
names_part (suc (suc (suc (suc n)))) =
    let no = λ (k : ℕ) (h : k < 4). ne_eqb (suc (suc (suc (suc n)))) k (λ e. omega arith) in
    rw (no 0 (lit< tt), no 1 (lit< tt), no 2 (lit< tt), no 3 (lit< tt)) (refl, omega arith)
