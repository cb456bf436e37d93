-- Damage to a soundly written track: the markers stand where they stood, every area but the one hit has its cells, and the one hit is
-- not readable. Why: two areas of the track have no cell in common, a recorded byte is no marker before or after, and the check of 16
-- bits finds every change within 16 successive bits.
use Prim.Native.Nat.{ℕ, zero, suc, ◌+◌, ◌<◌, ◌≤◌}
use native.Mathlib.Omega.{arith}
use native.Mathlib.Decide.{dec_lt, dec_le}
use mathlib.Core.Path.{◌≡◌, refl, sym, ap, ◌∙◌, subst}
use mathlib.Core.Bool.{Bool, true, false, true≢false, false≢true}
use mathlib.Core.List.{List}
use mathlib.Core.Logic.{⊎_elim}
use lib.ListN.{length}
use lib.Seq.{ext_get_or}
use lib.Dec.{eqb, leb}
use borrow.Author.Tests.{eqb-true, eq-eqb}
use Rattle.cells.specs.Cells.{both, mark_at, marks}
use Rattle.cells.proofs.Marks.{length-marks, get_or-marks, mark_none}
use Rattle.cells.proofs.Tests.{first_of, second_of, both_of}
use Rattle.house_check.proofs.Cells.{burst_cells}
use Rattle.areas.specs.declared.{Part.Part, Area.Area}
use Rattle.areas.specs.declared.Part.TheVariants.{Home, Count, Key, Data}
use Rattle.areas.specs.Areas.{area, area_cells, readable}
use Rattle.areas.proofs.Laws.{length-area_cells}
use Rattle.sound.specs.Sound.{Sound}
use Rattle.claim_track.specs.Damage.{Own, In, Damaged, part_no, same_area}
use Rattle.claim_track.proofs.Areas.{Good, good, area_cell, cell_recorded, no_marker, Apart, own_readable, own_apart}

-- t' is t with every hit area of it made unreadable and all its other areas as they were; a track that is hit had all its areas readable
pub record Hurt (hit : Area → Bool) (t t' : List ℕ) : Type 0 where
  pub marked : marks t ≡ marks t'
  pub kept : (a : Area) → Own t a → hit a ≡ false → area_cells t a ≡ area_cells t' a
  pub broken : (a : Area) → Own t a → hit a ≡ true → readable t' a ≡ false
  pub sound : (x : Area) → hit x ≡ true → (a : Area) → Own t a → readable t a ≡ true

-- ---- the test of two areas being one

part_of : ℕ → Part
part_of zero = Home
part_of (suc zero) = Count
part_of (suc (suc zero)) = Key
part_of (suc (suc (suc n))) = Data

part-back : (p : Part) → part_of (part_no p) ≡ p
unfolding part_of part_no
part-back Home = refl
part-back Count = refl
part-back Key = refl
part-back Data = refl

pub same_area_lem : (x a : Area) → same_area x a ≡ true → x ≡ a
unfolding same_area
same_area_lem x a e =
    let f = second_of (eqb x.first a.first) _ e in
    let p : x.part ≡ a.part =
    sym (part-back x.part) ∙ ap part_of (eqb-true _ _ (second_of (eqb x.bytes a.bytes) _ f)) ∙ part-back a.part in
    let q : x.first ≡ a.first = eqb-true _ _ (first_of (eqb x.first a.first) _ e) in
    let r : x.bytes ≡ a.bytes = eqb-true _ _ (first_of (eqb x.bytes a.bytes) _ f) in
    λ i. area (p i) (q i) (r i)

pub area_same : (x : Area) → same_area x x ≡ true
unfolding same_area
area_same x = both_of (eq-eqb x.first x.first refl) (both_of (eq-eqb x.bytes x.bytes refl) (eq-eqb (part_no x.part) (part_no x.part) refl))

-- ---- cells

in? : (x : Area) (i : ℕ) → Dec (In x i)
in? x i = go (dec_le x.first i) (dec_lt i (x.first + x.bytes + 2))
  where
    go : Dec (x.first ≤ i) → Dec (i < x.first + x.bytes + 2) → Dec (In x i)
    go (yes p) (yes q) = yes (p, q)
    go (yes p) (no q) = no (λ z. q z.1)
    go (no p) q = no (λ z. p z.0)

-- ---- damage to one area

module _ (s : ℕ) (x : Area) (t t' : List ℕ) (S : Sound t) (o : Own t x) (D : Damaged s x t t') where
  mark_same : (i : ℕ) → Dec (In x i) → mark_at t' i ≡ mark_at t i
  unfolding mark_at
  mark_same i (yes h) =
      mark_none t' i (no_marker _ (D.recorded i h)) ∙ sym (mark_none t i (no_marker _ (cell_recorded t x i (own_readable t S x o) h)))
  mark_same i (no h) = ap (λ (y : ℕ). both (leb 7 i) (eqb y 512)) (D.others i h)

  marks_same : marks t' ≡ marks t
  marks_same =
      ext_get_or false (marks t') (marks t) (length-marks t' ∙ D.long ∙ sym (length-marks t))
      (λ i h. get_or-marks t' i ∙ mark_same i (in? x i) ∙ sym (get_or-marks t i))

  own_good : (a : Area) → Own t a → Good a.bytes (area_cells t a)
  own_good a o' = good t a (own_readable t S a o')

  length-full : (a : Area) → Own t a → length (area_cells t' a) ≡ a.bytes + 2
  length-full a o' = omega (arith, length-area_cells t' a, length-area_cells t a, D.long, (own_good a o').long)

  apart_kept : (a : Area) → Own t a → Apart a x → area_cells t' a ≡ area_cells t a
  apart_kept a o' k =
      ext_get_or 0 (area_cells t' a) (area_cells t a) (length-full a o' ∙ sym (own_good a o').long)
      (λ i h.
      let n : i < a.bytes + 2 = omega (arith, length-full a o') in
      area_cell t' a i n
      ∙ D.others (a.first + i) (λ z. ⊎_elim (λ q. omega (arith, z.0, z.1)) (λ q. omega (arith, z.0, z.1)) k)
      ∙ sym (area_cell t a i n))

  cells_kept : (a : Area) → Own t a → same_area x a ≡ false → area_cells t' a ≡ area_cells t a
  cells_kept a o' e =
      ⊎_elim (λ q. absurd (true≢false (sym (area_same x) ∙ ap (same_area x) (sym q) ∙ e))) (λ q. apart_kept a o' q) (own_apart t S a x o' o)

  hit_broken : readable t' x ≡ false
  unfolding readable
  hit_broken =
      let G = own_good x o in
      burst_cells x.bytes s (area_cells t x) (area_cells t' x) G.long (length-full x o) D.bits G.agree

pub damaged_hurt : (s : ℕ) (x : Area) (t t' : List ℕ) → Sound t → Own t x → Damaged s x t t' → Hurt (same_area x) t t'
damaged_hurt s x t t' S o D = record {
  marked = sym (marks_same s x t t' S o D);
  kept = λ a o' e. sym (cells_kept s x t t' S o D a o' e);
  broken = λ a o' e. subst (λ (y : Area). readable t' y ≡ false) (same_area_lem x a e) (hit_broken s x t t' S o D);
  sound = λ y e a o'. own_readable t S a o';
}

-- no damage
pub same_hurt : (hit : Area → Bool) (t t' : List ℕ) → ((a : Area) → hit a ≡ false) → t ≡ t' → Hurt hit t t'
same_hurt hit t t' none e = record {
  marked = ap marks e;
  kept = λ a o f. ap (λ (u : List ℕ). area_cells u a) e;
  broken = λ a o f. absurd (false≢true (sym (none a) ∙ f));
  sound = λ x f a o. absurd (false≢true (sym (none x) ∙ f));
}
