-- One key or data area of a soundly written track recorded anew: the track stays soundly written, with the same records. Why: no other
-- area has a cell in common with it, so every count and marker stays; the area itself is laid with its check.
use Prim.Native.Nat.{ℕ, ◌+◌, ◌/◌, ◌<◌, ◌≤◌}
use mathlib.Core.Path.{◌≡◌, refl, sym, ap, ◌∙◌, subst}
use mathlib.Core.Bool.{true}
use mathlib.Core.List.{List}
use mathlib.Core.Logic.{⊎_elim}
use native.Mathlib.Omega.{arith}
use native.Mathlib.Decide.{dec_lt}
use lib.ListN.{length, get_or}
use borrow.Author.Tests.{eqb-true}
use Rattle.cells.specs.Cells.{overlay}
use Rattle.cells.proofs.Laws.{length-overlay, overlay_before, overlay-behind}
use Rattle.cells.proofs.Marks.{get_or-marks, mark_here}
use Rattle.cells.proofs.Numbers.{Bytes}
use Rattle.house_check.specs.Check.{cells_with_check}
use Rattle.house_check.proofs.Cells.{length_laid}
use Rattle.areas.specs.declared.{Area.Area, Counts.Counts}
use Rattle.areas.specs.Areas.{home_area, count_area, counts_at, key_area, data_area, record_cells, end_by, area_cells, readable, flag_of_r0}
use Rattle.hunt.specs.declared.{Spot.Spot}
use Rattle.hunt.specs.declared.Spot.TheVariants.{R0, Marker}
use Rattle.hunt.specs.Hunt.{count_first, spot_fits}
use Rattle.sound.specs.Sound.{Record, Records, none, more, Sound}
use Rattle.claim_track.specs.Damage.{IsRecord, Own, own_home, own_count, own_key, own_data, In, part_no}
use Rattle.claim_track.proofs.Areas.{cell_recorded, no_marker, begun-marker, begun_record, begun_apart, Apart, own_readable, own_apart}
use Rattle.claim_track.specs.Lasting.{ReadsAs}
use Rattle.claim_track.proofs.Same.{same_cells, same_readable, same_bytes, same_counts, record_by, overlay_has, has_area}

-- the track is soundly written, and the record is one of it and says the same
pub record Still (t t' : List ℕ) (r : Spot) : Type 0 where
  pub sound : Sound t'
  pub begun : IsRecord t' r
  pub counts : counts_at t' (count_first r) ≡ counts_at t (count_first r)

-- ---- an area recorded anew on any track

module _ (t : List ℕ) (x : Area) (w : List ℕ) (b : Bytes w) (e : length w ≡ x.bytes) (ends : x.first + x.bytes + 2 ≤ length t) where
  abbrev pub over : List ℕ
  over = overlay t x.first (cells_with_check w)

  laid_ends : x.first + length (cells_with_check w) ≤ length t
  laid_ends = omega (arith, length_laid w)

  pub over_long : length over ≡ length t
  over_long = length-overlay t x.first (cells_with_check w) laid_ends

  pub over_holds : ReadsAs over x w
  over_holds = has_area over x w b e (overlay_has t x.first (cells_with_check w) laid_ends)

  pub over_before : (i : ℕ) → i < x.first → get_or over i 0 ≡ get_or t i 0
  over_before i h = overlay_before t x.first (cells_with_check w) i (omega arith) h

  outside : (i : ℕ) → (In x i → ⊥) → get_or over i 0 ≡ get_or t i 0
  outside i h = go (dec_lt i x.first)
    where
      go : Dec (i < x.first) → get_or over i 0 ≡ get_or t i 0
      go (yes k) = over_before i k
      go (no k) =
          let far : x.first + x.bytes + 2 ≤ i = far_off (dec_lt i (x.first + x.bytes + 2)) in
          overlay-behind t x.first (cells_with_check w) i (omega arith) (omega (arith, length_laid w))
        where
          far_off : Dec (i < x.first + x.bytes + 2) → x.first + x.bytes + 2 ≤ i
          far_off (yes q) = absurd (h (omega arith, q))
          far_off (no q) = omega arith

  apart_kept : (a : Area) → Apart a x → area_cells over a ≡ area_cells t a
  apart_kept a k =
      same_cells t over a over_long
      (λ i h. outside i (λ z. ⊎_elim (λ q. omega (arith, q, h.1, z.0)) (λ q. omega (arith, q, h.0, z.1)) k))

  -- ---- a key or data area of a soundly written track, but no data area of DL 0

  module _ (S : Sound t) (o : Own t x) (kind : 1 < part_no x.part)
      (filled : (r : Spot) → IsRecord t r → (counts_at t (count_first r)).dl ≡ 0 → data_area (count_first r) (counts_at t (count_first r)) ≡ x → ⊥) where
    -- an area of another kind has no cell in common with it
    other_kept : (a : Area) → Own t a → (a ≡ x → ⊥) → area_cells over a ≡ area_cells t a
    other_kept a o' n = ⊎_elim (λ q. absurd (n q)) (λ q. apart_kept a q) (own_apart t S a x o' o)

    low_kept : (a : Area) → Own t a → part_no a.part ≤ 1 → area_cells over a ≡ area_cells t a
    low_kept a o' h = other_kept a o' (λ q. omega (arith, ap (λ (y : Area). part_no y.part) q))

    all_readable : (a : Area) → Own t a → readable over a ≡ true
    all_readable a o' =
        ⊎_elim (λ q. subst (λ (y : Area). readable over y ≡ true) (sym q) over_holds.reads)
        (λ q. same_readable t over a (apart_kept a q) ∙ own_readable t S a o') (own_apart t S a x o' o)

    home_kept_lem : area_cells over home_area ≡ area_cells t home_area
    unfolding part_no
    home_kept_lem = low_kept home_area own_home (omega arith)

    counts_kept : (r : Spot) → IsRecord t r → counts_at over (count_first r) ≡ counts_at t (count_first r)
    unfolding part_no
    counts_kept r B = same_counts t over (count_first r) (low_kept (count_area (count_first r)) (own_count r B) (omega arith))

    record_kept : (r : Spot) → IsRecord t r → Record over (count_first r)
    record_kept r B =
        let c : ℕ = count_first r in
        let n : Counts = counts_at t c in
        let d : Own t (data_area c n) = own_data r B in
        record_by over c n (counts_kept r B) (all_readable (count_area c) (own_count r B)) (λ z. all_readable (key_area c n) (own_key r B z))
        (all_readable (data_area c n) d)
        (λ z. same_bytes t over (data_area c n) (other_kept (data_area c n) d (filled r B z)) ∙ (begun_record t S r B).empty z)

    -- a marker and a gap are no cells of it
    marker-kept : (p : ℕ) → get_or t p 0 ≡ 512 → get_or over p 0 ≡ 512
    marker-kept p m = outside p (λ h. no_marker (get_or t p 0) (cell_recorded t x p (own_readable t S x o) h) m) ∙ m

    gap-kept : (i : ℕ) → get_or t i 0 ≡ 0 → get_or over i 0 ≡ 0
    gap-kept i z =
        outside i (λ h. omega (arith, z, eqb-true (get_or t i 0 / 256) 1 (cell_recorded t x i (own_readable t S x o) h))) ∙ z

    begun_here : (p : ℕ) → 7 ≤ p → get_or t p 0 ≡ 512 → IsRecord t (Marker p)
    unfolding spot_fits
    begun_here p h m = get_or-marks t p ∙ mark_here t p h m

    begun_kept : (r : Spot) → IsRecord t r → IsRecord over r
    unfolding spot_fits
    begun_kept R0 B = refl
    begun_kept (Marker p) B =
        let m = begun-marker t p B in
        get_or-marks over p ∙ mark_here over p m.0 (marker-kept p m.1)

    records_kept : {f p : ℕ} → 7 ≤ p → Records t f p → Records over f p
    unfolding count_first record_cells end_by
    records_kept h (none z) = none (λ i k. gap-kept i (z i k))
    records_kept {p = p} h (more m R g r) =
        let B : IsRecord t (Marker p) = begun_here p h m in
        let e : counts_at over (p + 1) ≡ counts_at t (p + 1) = counts_kept (Marker p) B in
        more (marker-kept p m) (record_kept (Marker p) B) (ap (λ (n : Counts). n.flag) e ∙ g)
        (subst (λ (n : Counts). Records over n.flag (end_by (p + 1) n)) (sym e) (records_kept (omega arith) r))

    sound_kept : Sound over
    unfolding count_first record_cells end_by spot_fits
    sound_kept =
        let e : counts_at over 7 ≡ counts_at t 7 = counts_kept R0 refl in
        record {
          long = over_long ∙ S.long;
          home = all_readable home_area own_home;
          r0 = record_kept R0 refl;
          flag = ap (λ (n : Counts). n.flag) e ∙ S.flag
              ∙ ap (λ (l : List ℕ). flag_of_r0 (get_or l 0 0)) (sym (same_bytes t over home_area home_kept_lem));
          rest = subst (λ (n : Counts). Records over n.flag (end_by 7 n)) (sym e) (records_kept (omega arith) S.rest);
        }

    pub over_still : (r : Spot) → IsRecord t r → Still t over r
    over_still r B = record { sound = sound_kept; begun = begun_kept r B; counts = counts_kept r B }

-- ---- which areas these are

module _ (t : List ℕ) (S : Sound t) (s r : Spot) (b : IsRecord t s) (B : IsRecord t r) where
  -- of a record with data no other record's data area is the same
  pub data_filled : 0 < (counts_at t (count_first s)).dl → (counts_at t (count_first r)).dl ≡ 0
      → data_area (count_first r) (counts_at t (count_first r)) ≡ data_area (count_first s) (counts_at t (count_first s)) → ⊥
  unfolding data_area record_cells end_by
  data_filled h z q = go (dec_lt (count_first r) (count_first s)) (dec_lt (count_first s) (count_first r))
    where
      first : (data_area (count_first r) (counts_at t (count_first r))).first ≡ (data_area (count_first s) (counts_at t (count_first s))).first
      first = ap (λ (a : Area). a.first) q

      go : Dec (count_first r < count_first s) → Dec (count_first s < count_first r) → ⊥
      go (yes k) j = omega (arith, first, begun_apart t S r s B b k)
      go (no k) (yes j) = omega (arith, first, begun_apart t S s r b B j)
      go (no k) (no j) =
          let e : count_first r ≡ count_first s = omega arith in
          omega (arith, h, z, ap (λ (c : ℕ). (counts_at t c).dl) e)

pub key_filled : (c k : ℕ) (n m : Counts) → data_area c n ≡ key_area k m → ⊥
unfolding data_area key_area part_no
key_filled c k n m q = omega (arith, ap (λ (a : Area). part_no a.part) q)
