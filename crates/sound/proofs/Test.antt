-- The test is the predicate: a track that passes it is soundly written, and a soundly written track passes it. Why: the test makes the
-- predicate's comparisons one by one, and no track has more records than cells.
use Prim.Native.Nat.{ℕ, zero, suc, ◌+◌, ◌-◌, ◌<◌, ◌≤◌}
use native.Mathlib.Omega.{arith}
use native.Mathlib.Decide.{dec_lt, ℕ_discrete}
use mathlib.Core.Path.{◌≡◌, refl, sym, ap, ap₂, ◌∙◌, subst}
use mathlib.Core.Bool.{Bool, true, false, true≢false, false≢true}
use mathlib.Core.List.{List, [], ◌∷◌}
use lib.ListN.{length, get_or, drop, get_or-eq_default}
use lib.Seq.{get_or-drop}
use lib.Dec.{eqb}
use borrow.Author.Tests.{eqb-true, ne_eqb, eq-eqb}
use Rattle.cells.specs.Cells.{pick, both, either, track_cells}
use Rattle.cells.proofs.Tests.{first_of, second_of}
use Rattle.areas.specs.Areas.{home_area, home_flag, r0_first, count_area, key_area, data_area, readable, area_bytes, counts_at, record_cells, end_by, flag_of_r0, flag_after}
use Rattle.sound.specs.Sound.{flag_at, end_at, Record, Records, none, more, Sound}
use Rattle.sound.specs.Test.{all_gaps, one_zero, record_ok, records_ok, soundly}

-- ---- choices

other : (a b : Bool) → either a b ≡ true → a ≡ false → b ≡ true
other true b e f = absurd (true≢false f)
other false b e f = e

-- ---- gaps to the end

gaps_at : (t : List ℕ) (i : ℕ) → all_gaps t ≡ true → get_or t i 0 ≡ 0
unfolding all_gaps
gaps_at [] i e = refl
gaps_at (x ∷ t) zero e = eqb-true x 0 (first_of (eqb x 0) _ e)
gaps_at (x ∷ t) (suc i) e = gaps_at t i (second_of (eqb x 0) _ e)

gaps_from : (t : List ℕ) (p : ℕ) → all_gaps (drop p t) ≡ true → (i : ℕ) → p ≤ i → get_or t i 0 ≡ 0
gaps_from t p e i h =
    let q : p + (i - p) ≡ i = omega arith in
    ap (λ (j : ℕ). get_or t j 0) (sym q) ∙ sym (get_or-drop p t (i - p) 0) ∙ gaps_at (drop p t) (i - p) e

at_gaps : (t : List ℕ) → ((i : ℕ) → get_or t i 0 ≡ 0) → all_gaps t ≡ true
unfolding all_gaps
at_gaps [] f = refl
at_gaps (x ∷ t) f = ap₂ both (eq-eqb x 0 (f 0)) (at_gaps t (λ i. f (suc i)))

from_gaps : (t : List ℕ) (p : ℕ) → ((i : ℕ) → p ≤ i → get_or t i 0 ≡ 0) → all_gaps (drop p t) ≡ true
from_gaps t p f = at_gaps (drop p t) (λ i. get_or-drop p t i 0 ∙ f (p + i) (omega arith))

-- ---- one zero byte

is_zero : (v : List ℕ) → one_zero v ≡ true → v ≡ 0 ∷ []
unfolding one_zero
is_zero [] e = absurd (false≢true e)
is_zero (b ∷ []) e = ap (λ (x : ℕ). x ∷ []) (eqb-true b 0 e)
is_zero (b ∷ b' ∷ v) e = absurd (false≢true e)

zero_ok : one_zero (0 ∷ []) ≡ true
unfolding one_zero
zero_ok = refl

-- ---- a record

record_is : (t : List ℕ) (c : ℕ) → record_ok t c ≡ true → Record t c
unfolding record_ok
record_is t c e =
    let n = counts_at t c in
    let f = second_of (readable t (count_area c)) _ e in
    let g = second_of (either (eqb n.kl 0) (readable t (key_area c n))) _ f in
    let h = second_of (readable t (data_area c n)) _ g in
    record {
      count = first_of (readable t (count_area c)) _ e;
      key = λ k. other (eqb n.kl 0) _ (first_of (either (eqb n.kl 0) (readable t (key_area c n))) _ f) (ne_eqb _ _ k);
      body = first_of (readable t (data_area c n)) _ g;
      empty = λ z. is_zero _ (subst (λ (b : Bool). pick b (one_zero (area_bytes t (data_area c n))) true ≡ true) (eq-eqb _ _ z) h);
    }

is_record : (t : List ℕ) (c : ℕ) → Record t c → record_ok t c ≡ true
unfolding record_ok
is_record t c R =
    ap₂ both R.count (ap₂ both (key (ℕ_discrete (counts_at t c).kl 0)) (ap₂ both R.body (empty (ℕ_discrete (counts_at t c).dl 0))))
  where
    key : Dec ((counts_at t c).kl ≡ 0) → either (eqb (counts_at t c).kl 0) (readable t (key_area c (counts_at t c))) ≡ true
    key (yes z) = ap (λ (b : Bool). either b (readable t (key_area c (counts_at t c)))) (eq-eqb _ _ z)
    key (no z) = ap₂ either (ne_eqb _ _ z) (R.key z)

    empty : Dec ((counts_at t c).dl ≡ 0) → pick (eqb (counts_at t c).dl 0) (one_zero (area_bytes t (data_area c (counts_at t c)))) true ≡ true
    empty (yes z) = ap₂ (λ (b : Bool) (v : List ℕ). pick b (one_zero v) true) (eq-eqb _ _ z) (R.empty z) ∙ zero_ok
    empty (no z) = ap (λ (b : Bool). pick b (one_zero (area_bytes t (data_area c (counts_at t c)))) true) (ne_eqb _ _ z)

-- ---- the records after R0

-- what the test says of a record in cell p and the rest
abbrev here : ℕ → List ℕ → ℕ → ℕ → Bool
here n t f p = both (record_ok t (p + 1)) (both (eqb (flag_at t (p + 1)) (flag_after f)) (records_ok n t (flag_at t (p + 1)) (end_at t (p + 1))))

records_are : (n : ℕ) (t : List ℕ) (f p : ℕ) → records_ok n t f p ≡ true → Records t f p
unfolding records_ok
records_are zero t f p e = none (gaps_from t p e)
records_are (suc n) t f p e = go (ℕ_discrete (get_or t p 0) 512) (λ q. records_are n t _ _ q)
  where
    go : Dec (get_or t p 0 ≡ 512) → (records_ok n t (flag_at t (p + 1)) (end_at t (p + 1)) ≡ true → Records t (flag_at t (p + 1)) (end_at t (p + 1)))
        → Records t f p
    go (yes m) r =
        let q : here n t f p ≡ true = ap (λ (b : Bool). pick b (here n t f p) (all_gaps (drop p t))) (sym (eq-eqb _ _ m)) ∙ e in
        let q' = second_of (record_ok t (p + 1)) _ q in
        more m (record_is t (p + 1) (first_of (record_ok t (p + 1)) _ q))
        (eqb-true _ _ (first_of (eqb (flag_at t (p + 1)) (flag_after f)) _ q'))
        (r (second_of (eqb (flag_at t (p + 1)) (flag_after f)) _ q'))
    go (no m) r = none (gaps_from t p (ap (λ (b : Bool). pick b (here n t f p) (all_gaps (drop p t))) (sym (ne_eqb _ _ m)) ∙ e))

-- a record is at least a cell long, and no marker stands behind the last cell: so n records are enough for n cells
ends_on : (t : List ℕ) (c : ℕ) → c < end_at t c
unfolding end_by record_cells
ends_on t c = omega arith

inside : (t : List ℕ) (p : ℕ) → get_or t p 0 ≡ 512 → p < length t
inside t p e = go (dec_lt p (length t))
  where
    go : Dec (p < length t) → p < length t
    go (yes h) = h
    go (no h) = absurd (omega (arith, get_or-eq_default t 0 {n = p} (omega arith)))

are_records : (n : ℕ) (t : List ℕ) (f p : ℕ) → length t ≤ p + n → Records t f p → records_ok n t f p ≡ true
unfolding records_ok
are_records zero t f p h (none z) = from_gaps t p z
are_records (suc n) t f p h (none z) =
    ap (λ (b : Bool). pick b (here n t f p) (all_gaps (drop p t))) (ne_eqb (get_or t p 0) 512 (λ e. omega (arith, z p (omega arith))))
    ∙ from_gaps t p z
are_records zero t f p h (more m R k r) = absurd (omega (arith, inside t p m))
are_records (suc n) t f p h (more m R k r) =
    ap (λ (b : Bool). pick b (here n t f p) (all_gaps (drop p t))) (eq-eqb (get_or t p 0) 512 m)
    ∙ ap₂ both (is_record t (p + 1) R)
    (ap₂ both (eq-eqb (flag_at t (p + 1)) (flag_after f) k) (are_records n t (flag_at t (p + 1)) (end_at t (p + 1)) (omega (arith, ends_on t (p + 1))) r))

-- ---- the track

pub soundly_sound : (t : List ℕ) → soundly t ≡ true → Sound t
unfolding soundly
soundly_sound t e =
    let f = second_of (eqb (length t) track_cells) _ e in
    let g = second_of (readable t home_area) _ f in
    let h = second_of (record_ok t r0_first) _ g in
    record {
      long = eqb-true _ _ (first_of (eqb (length t) track_cells) _ e);
      home = first_of (readable t home_area) _ f;
      r0 = record_is t r0_first (first_of (record_ok t r0_first) _ g);
      flag = eqb-true _ _ (first_of (eqb (flag_at t r0_first) (flag_of_r0 (home_flag t))) _ h);
      rest = records_are track_cells t _ _ (second_of (eqb (flag_at t r0_first) (flag_of_r0 (home_flag t))) _ h);
    }

pub sound_soundly : (t : List ℕ) → Sound t → soundly t ≡ true
unfolding soundly
sound_soundly t S =
    ap₂ both (eq-eqb (length t) track_cells S.long)
    (ap₂ both S.home
    (ap₂ both (is_record t r0_first S.r0)
    (ap₂ both (eq-eqb (flag_at t r0_first) (flag_of_r0 (home_flag t)) S.flag)
    (are_records track_cells t _ _ (omega (arith, S.long)) S.rest))))
