-- Laws of the hunt: one cell on, none left, and that cells before 7 and cells without a marker make no difference.
use Prim.Native.Nat.{ℕ, zero, suc, ◌+◌, ◌-◌, ◌<◌, ◌≤◌, max}
use mathlib.Core.Path.{◌≡◌, refl, sym, ap, ◌∙◌}
use mathlib.Core.Bool.{Bool, true, false, not, cond}
use mathlib.Core.List.{List, [], ◌∷◌, ◌++◌}
use native.Mathlib.Numerals.{add-one}
use native.Mathlib.Nat.{zero-add}
use native.Mathlib.Omega.{arith}
use native.Mathlib.Decide.{dec_lt}
use lib.ListN.{length, get_or, take, drop, drop_of_length-le}
use lib.Seq.{drop-cons}
use lib.Dec.{eqb}
use Rattle.std.proofs.Math.Seq.{take-add}
use Rattle.std.proofs.lemmas.List.{drop-drop}
use borrow.Author.Tests.{le-leb, lt-ltb, le-ltb, eqb-false, not-true}
use Rattle.cells.specs.Cells.{pick, both, mark_at, marks}
use Rattle.cells.proofs.Marks.{length-marks, get_or-marks, mark_none, mark_low}
use Rattle.cells.proofs.Tests.{first_of, second_of, both_of}
use Rattle.hunt.specs.declared.Spot.TheVariants.{R0}
use Rattle.hunt.specs.Hunt.{markerless, scan, hunt, ahead_or, next_id}
use Rattle.std.specs.List.{find, range_with_len}
use Rattle.std.specs.Prelude.{Some, None, Option}

module _ (t : List ℕ) (p : ℕ) where
  -- by what stands in cell p
  hunt_by : (b : Bool) → mark_at t p ≡ b → p < length t → hunt (marks t) p ≡ pick b (Some p) (hunt (marks t) (suc p))
  unfolding hunt scan
  hunt_by b e h =
      let k : p < length (marks t) = omega (arith, length-marks t) in
      ap (λ (m : List Bool). scan m p) (drop-cons (marks t) p false k)
      ∙ ap (λ (x : Bool). pick x (Some p) (scan (drop (suc p) (marks t)) (suc p))) (get_or-marks t p ∙ e)

  pub hunt_end : length t ≤ p → hunt (marks t) p ≡ None
  unfolding hunt scan
  hunt_end h =
      let k : length (marks t) ≤ p = omega (arith, length-marks t) in
      ap (λ (m : List Bool). scan m p) (drop_of_length-le (marks t) k)

  low_on : p < 7 → 7 ≤ length t → hunt (marks t) p ≡ hunt (marks t) (suc p)
  low_on h k = hunt_by false (mark_low t p h) (omega arith)

-- from a place below 7 the hunt is that from 7
up : (t : List ℕ) (n p : ℕ) → n + p ≡ 7 → 7 ≤ length t → hunt (marks t) p ≡ hunt (marks t) 7
up t zero p e h = ap (hunt (marks t)) (sym (zero-add p) ∙ e)
up t (suc n) p e h = low_on t p (omega arith) h ∙ up t n (suc p) (omega arith) h

pub hunt_first : (t : List ℕ) (p : ℕ) → 7 ≤ length t → hunt (marks t) p ≡ hunt (marks t) (max p 7)
hunt_first t p h = go (dec_lt p 7)
  where
    go : Dec (p < 7) → hunt (marks t) p ≡ hunt (marks t) (max p 7)
    go (yes k) = up t (7 - p) p (omega arith) h ∙ ap (hunt (marks t)) (omega arith)
    go (no k) = ap (hunt (marks t)) (omega arith)

-- from cell 7 on it comes to the first of the cells that holds 512
pub mark_is : (t : List ℕ) (p : ℕ) → 7 ≤ p → mark_at t p ≡ eqb (get_or t p 0) 512
unfolding mark_at
mark_is t p h = ap (λ (b : Bool). both b (eqb (get_or t p 0) 512)) (le-leb 7 p h)

cond-pick : {A : Type 0} (b : Bool) (x y : A) → cond b x y ≡ pick b x y
cond-pick true x y = refl
cond-pick false x y = refl

pub hunt_find : (t : List ℕ) (n p : ℕ) → n ≡ length t - p → 7 ≤ p → find (λ i. eqb (get_or t i 0) 512) (range_with_len p n) ≡ hunt (marks t) p
hunt_find t zero p e h = sym (hunt_end t p (omega arith))
hunt_find t (suc n) p e h =
    let b = eqb (get_or t p 0) 512 in
    ap (cond b (Some p)) (hunt_find t n (p + 1) (omega arith) (omega arith) ∙ ap (hunt (marks t)) (add-one p))
    ∙ cond-pick b (Some p) (hunt (marks t) (suc p)) ∙ sym (hunt_by t p b (mark_is t p h) (omega arith))

-- ---- cells without a marker

-- n such cells make no difference
over : (t : List ℕ) (n p q : ℕ) → markerless (take n (drop p t)) ≡ true → n + p ≡ q → q ≤ length t → hunt (marks t) p ≡ hunt (marks t) q
unfolding markerless
over t zero p q b e h = ap (hunt (marks t)) (sym (zero-add p) ∙ e)
over t (suc n) p q b e h =
    let k : p < length t = omega arith in
    let x = get_or t p 0 in
    let d = rw (drop-cons t p 0) at b in
    hunt_by t p false (mark_none t p (eqb-false x 512 (not-true _ (first_of _ _ d)))) k
    ∙ over t n (suc p) q (second_of (not (eqb x 512)) _ d) (omega arith) h

-- none of no cells, and of those up to i and on to j
pub none_passed : (t : List ℕ) (p : ℕ) → markerless (take (p - p) (drop p t)) ≡ true
unfolding markerless
none_passed t p = let e : p - p ≡ 0 = omega arith in ap (λ (n : ℕ). markerless (take n (drop p t))) e

markerless-append : (x y : List ℕ) → markerless x ≡ true → markerless y ≡ true → markerless (x ++ y) ≡ true
unfolding markerless
markerless-append [] y e h = h
markerless-append (a ∷ x) y e h = both_of (first_of (not (eqb a 512)) _ e) (markerless-append x y (second_of (not (eqb a 512)) _ e) h)

pub bare_more : (t : List ℕ) (p i j : ℕ) → p ≤ i → i ≤ j → markerless (take (i - p) (drop p t)) ≡ true → markerless (take (j - i) (drop i t)) ≡ true
    → markerless (take (j - p) (drop p t)) ≡ true
bare_more t p i j h k e f =
    let n : j - p ≡ (i - p) + (j - i) = omega arith in
    let rest : drop (i - p) (drop p t) ≡ drop i t = drop-drop (i - p) p t ∙ ap (λ (m : ℕ). drop m t) (omega arith) in
    ap (λ (m : ℕ). markerless (take m (drop p t))) n ∙ ap markerless (take-add (i - p) (j - i) (drop p t))
    ∙ markerless-append _ _ e (ap (λ (l : List ℕ). markerless (take (j - i) l)) rest ∙ f)

-- a hunt from p may begin at q, if the cells between are such
pub hunt_bare : (t : List ℕ) (p q : ℕ) (f : Option ℕ) → hunt (marks t) p ≡ f → p ≤ q → q ≤ length t → markerless (take (q - p) (drop p t)) ≡ true → hunt (marks t) q ≡ f
hunt_bare t p q f e h k b = sym (over t (q - p) p q b (omega arith) k) ∙ e

-- ---- the record that Search ID takes, by what the hunt finds

module _ (m : List Bool) (p : ℕ) where
  pub id_low : p < 7 → Some (R0, 0) ≡ next_id m p
  unfolding next_id
  id_low h = ap (λ (b : Bool). pick b (Some (R0, 0)) (ahead_or (hunt m p) (Some (R0, 1)))) (sym (lt-ltb p 7 h))

  pub id_high : (f : Option ℕ) → 7 ≤ p → hunt m p ≡ f → ahead_or f (Some (R0, 1)) ≡ next_id m p
  unfolding next_id
  id_high f h e =
      ap (λ (x : Option ℕ). ahead_or x (Some (R0, 1))) (sym e)
      ∙ ap (λ (b : Bool). pick b (Some (R0, 0)) (ahead_or (hunt m p) (Some (R0, 1)))) (sym (le-ltb p 7 h))
