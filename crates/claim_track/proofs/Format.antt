-- What the format writes leave: Write R0 and 1D a soundly written track, Write HA one that is not. Why: the cells before what is laid are
-- as they were, so the home address and every record before it stay; what is laid is a record; gaps follow it. Behind Write HA no cell is
-- a recorded byte, so there is no R0.
use Prim.Native.Nat.{ℕ, ◌+◌, ◌/◌, ◌<◌, ◌≤◌}
use mathlib.Core.Path.{◌≡◌, sym, ap, ◌∙◌, subst}
use mathlib.Core.Bool.{true}
use mathlib.Core.List.{List, [], ◌∷◌}
use native.Mathlib.Omega.{arith}
use native.Mathlib.Decide.{ℕ_discrete}
use native.Mathlib.Nat.{add-zero}
use lib.ListN.{length, get_or}
use borrow.Author.Tests.{eqb-true}
use Rattle.cells.specs.Cells.{padded, marker}
use Rattle.cells.proofs.Laws.{length-padded}
use Rattle.cells.proofs.Numbers.{Bytes}
use Rattle.house_check.specs.Check.{cells_with_check}
use Rattle.areas.specs.declared.{Area.Area, Counts.Counts}
use Rattle.areas.specs.Areas.{home_area, home_flag, count_area, counts_of, counts_at, key_area, data_area, record_cells, end_by, needed, area_cells, readable, flag_of_r0, flag_after}
use Rattle.areas.proofs.Laws.{some_key}
use Rattle.hunt.specs.declared.{Spot.Spot}
use Rattle.hunt.specs.declared.Spot.TheVariants.{R0, Marker}
use Rattle.hunt.specs.Hunt.{count_first}
use Rattle.recording.proofs.Laws.{padded-bytes}
use Rattle.format.specs.Format.{new_counts, new_record}
use Rattle.format.proofs.Laws.{formatted, length-area, length-new, length_formatted, formatted_before, formatted_inside, formatted_behind}
use Rattle.sound.specs.Sound.{flag_at, end_at, Record, Records, none, more, Sound}
use Rattle.claim_track.specs.Damage.{IsRecord}
use Rattle.claim_track.proofs.Areas.{cell_recorded, unmarked, begun-marker}
use Rattle.claim_track.specs.Lasting.{HomeOnly, ReadsAs, NewBack, MarkedBack}
use Rattle.claim_track.proofs.Same.{same_cells, same_readable, same_bytes, same_counts, record_by, Has, has_back, has_area}
use Rattle.claim_track.proofs.New.{new-back, new_record_lem}

count_before : (t : List ℕ) (c : ℕ) → c + 11 ≤ end_at t c
unfolding record_cells end_by
count_before t c = omega arith

-- ---- t' has the cells of t before cell p

module _ (t t' : List ℕ) (p : ℕ) (long : length t' ≡ length t) (before : (i : ℕ) → i < p → get_or t' i 0 ≡ get_or t i 0) where
  pub area-kept : (a : Area) → a.first + a.bytes + 2 ≤ p → area_cells t' a ≡ area_cells t a
  area-kept a h = same_cells t t' a long (λ i k. before i (omega (arith, k.1)))

  pub counts_kept : (c : ℕ) → c + 11 ≤ p → counts_at t' c ≡ counts_at t c
  counts_kept c h = same_counts t t' c (area-kept (count_area c) (omega arith))

  record_kept : (c : ℕ) → Record t c → end_at t c ≤ p → Record t' c
  unfolding key_area data_area record_cells end_by
  record_kept c R h =
      let n : Counts = counts_at t c in
      let d : area_cells t' (data_area c n) ≡ area_cells t (data_area c n) = area-kept (data_area c n) (omega arith) in
      record_by t' c n (counts_kept c (omega arith)) (same_readable t t' (count_area c) (area-kept (count_area c) (omega arith)) ∙ R.count)
      (λ z. same_readable t t' (key_area c n) (area-kept (key_area c n) (omega (arith, some_key n z))) ∙ R.key z)
      (same_readable t t' (data_area c n) d ∙ R.body) (λ z. same_bytes t t' (data_area c n) d ∙ R.empty z)

  -- the records from cell s on, up to the one whose marker is in cell q; then those of t'
  records_kept : {f s : ℕ} → Records t f s → (q : ℕ) → s ≤ q → get_or t q 0 ≡ 512 → end_at t (q + 1) ≤ p
      → Records t' (flag_at t (q + 1)) (end_at t (q + 1)) → Records t' f s
  records_kept (none z) q h m k r = absurd (omega (arith, z q h))
  records_kept {f = f} {s = s} (more m' R g r') q h m k r = go (ℕ_discrete q s) (λ j. records_kept r' q j m k r)
    where
      stays : end_at t (s + 1) ≤ p → Records t' (flag_at t (s + 1)) (end_at t (s + 1)) → Records t' f s
      stays j x =
          let e : counts_at t' (s + 1) ≡ counts_at t (s + 1) = counts_kept (s + 1) (omega (arith, count_before t (s + 1))) in
          more (before s (omega (arith, count_before t (s + 1))) ∙ m') (record_kept (s + 1) R j) (ap (λ (n : Counts). n.flag) e ∙ g)
          (subst (λ (n : Counts). Records t' n.flag (end_by (s + 1) n)) (sym e) x)

      go : Dec (q ≡ s) → (end_at t (s + 1) ≤ q → Records t' (flag_at t (s + 1)) (end_at t (s + 1))) → Records t' f s
      go (yes e) w =
          stays (subst (λ (z : ℕ). end_at t (z + 1) ≤ p) e k) (subst (λ (z : ℕ). Records t' (flag_at t (z + 1)) (end_at t (z + 1))) e r)
      go (no e) w =
          let u : end_at t (s + 1) ≤ q = unmarked t (s + 1) q R (omega arith) m in
          stays (omega (arith, u, count_before t (q + 1))) (w u)

-- ---- a new record from cell c on, and gaps behind it

module _ (flag : ℕ) (v t : List ℕ) (c : ℕ) (f : flag < 256) (b : Bytes v) (H : Has t c (new_record flag v))
    (gaps : (i : ℕ) → c + length (new_record flag v) ≤ i → get_or t i 0 ≡ 0) where
  new_flag : flag_at t c ≡ flag
  unfolding new_counts counts_of
  new_flag = ap (λ (n : Counts). n.flag) (new-back flag v t c f b H).counts

  new_end : end_at t c ≡ c + length (new_record flag v)
  unfolding end_by
  new_end = ap (end_by c) (new-back flag v t c f b H).counts ∙ ap (λ (k : ℕ). c + k) (sym (length-new flag v))

  last : (g : ℕ) → Records t g (end_at t c)
  last g = none (λ (i : ℕ) (h : end_at t c ≤ i). gaps i (omega (arith, new_end)))

formatted_has : (t : List ℕ) (at : ℕ) (x : List ℕ) → at + length x ≤ length t → Has (formatted t at x) at x
formatted_has t at x h = record { ends = omega (arith, length_formatted t at x h); cells = formatted_inside t at x h }

-- ---- Write HA

module _ (t v : List ℕ) (l : length t ≡ 4096) (b : Bytes v) where
  abbrev home_left : List ℕ
  home_left = formatted t 0 (cells_with_check (padded 5 v))

  home_fits : 0 + length (cells_with_check (padded 5 v)) ≤ length t
  home_fits = omega (arith, length-area 5 v)

  pub home_back : ReadsAs home_left home_area (padded 5 v)
  home_back =
      has_area home_left home_area (padded 5 v) (padded-bytes 5 v b) (length-padded 5 v) (formatted_has t 0 (cells_with_check (padded 5 v)) home_fits)

  home_zeros : (i : ℕ) → 7 ≤ i → get_or home_left i 0 ≡ 0
  home_zeros i h = formatted_behind t 0 (cells_with_check (padded 5 v)) home_fits i (omega (arith, length-area 5 v))

  -- R0's count would begin with a gap
  home_unsound : Sound home_left → ⊥
  home_unsound S =
      let e = cell_recorded home_left (count_area 7) 7 S.r0.count (omega arith, omega arith) in
      omega (arith, eqb-true (get_or home_left 7 0 / 256) 1 e, home_zeros 7 (omega arith))

  pub home_lasts : HomeOnly home_left
  home_lasts = record {
    long = length_formatted t 0 (cells_with_check (padded 5 v)) home_fits ∙ l;
    home = home_back.reads;
    zeros = home_zeros;
    unsound = home_unsound;
  }

-- ---- Write R0

pub flag_of_r0_lem : (h : ℕ) → flag_of_r0 h < 256
unfolding flag_of_r0
flag_of_r0_lem h = omega arith

module _ (t v : List ℕ) (l : length t ≡ 4096) (b : Bytes v) (flag : ℕ) (fit : 7 + record_cells (new_counts flag v) ≤ 4096) where
  abbrev r0_left : List ℕ
  r0_left = formatted t 7 (new_record flag v)

  r0_fits : 7 + length (new_record flag v) ≤ length t
  r0_fits = omega (arith, length-new flag v)

  r0_has : Has r0_left 7 (new_record flag v)
  r0_has = formatted_has t 7 (new_record flag v) r0_fits

  pub r0_back : flag < 256 → NewBack flag v r0_left 7
  r0_back f = new-back flag v r0_left 7 f b r0_has

  pub r0_lasts : flag ≡ flag_of_r0 (home_flag t) → readable t home_area ≡ true → Sound r0_left
  r0_lasts e r =
      let f : flag < 256 = omega (arith, flag_of_r0_lem (home_flag t)) in
      let long : length r0_left ≡ length t = length_formatted t 7 (new_record flag v) r0_fits in
      let gaps : (i : ℕ) → 7 + length (new_record flag v) ≤ i → get_or r0_left i 0 ≡ 0 = formatted_behind t 7 (new_record flag v) r0_fits in
      let h : area_cells r0_left home_area ≡ area_cells t home_area =
      area-kept t r0_left 7 long (formatted_before t 7 (new_record flag v) r0_fits) home_area (omega arith) in
      record {
        long = long ∙ l;
        home = same_readable t r0_left home_area h ∙ r;
        r0 = new_record_lem flag v r0_left 7 f b r0_has;
        flag = new_flag flag v r0_left 7 f b r0_has gaps ∙ e ∙ ap (λ (x : List ℕ). flag_of_r0 (get_or x 0 0)) (sym (same_bytes t r0_left home_area h));
        rest = last flag v r0_left 7 f b r0_has gaps _;
      }

-- ---- 1D

flag_after_lem : (h : ℕ) → flag_after h < 256
unfolding flag_after
flag_after_lem h = omega arith

module _ (t v : List ℕ) (l : length t ≡ 4096) (b : Bytes v) (at f : ℕ) (fit : at + needed (new_counts (flag_after f) v) ≤ 4096) where
  abbrev laid_cells : List ℕ
  laid_cells = marker ∷ new_record (flag_after f) v

  abbrev record_left : List ℕ
  record_left = formatted t at laid_cells

  record_fits : at + length laid_cells ≤ length t
  unfolding needed
  record_fits = omega (arith, length-new (flag_after f) v)

  record_has : Has record_left (at + 1) (new_record (flag_after f) v)
  record_has = has_back record_left at (marker ∷ []) (new_record (flag_after f) v) (formatted_has t at laid_cells record_fits)

  mark_laid : get_or record_left at 0 ≡ 512
  mark_laid = ap (λ (j : ℕ). get_or record_left j 0) (sym (add-zero at)) ∙ formatted_inside t at laid_cells record_fits 0 (omega arith)

  pub record_back : MarkedBack (flag_after f) v record_left at
  record_back = record { mark = mark_laid; back = new-back (flag_after f) v record_left (at + 1) (flag_after_lem f) b record_has }

  gaps_behind : (i : ℕ) → at + 1 + length (new_record (flag_after f) v) ≤ i → get_or record_left i 0 ≡ 0
  gaps_behind i h = formatted_behind t at laid_cells record_fits i (omega arith)

  -- the new record, after one whose flag is f
  new_last : Records record_left f at
  new_last =
      more mark_laid
      (new_record_lem (flag_after f) v record_left (at + 1) (flag_after_lem f) b record_has)
      (new_flag (flag_after f) v record_left (at + 1) (flag_after_lem f) b record_has gaps_behind)
      (last (flag_after f) v record_left (at + 1) (flag_after_lem f) b record_has gaps_behind _)

  module _ (S : Sound t) where
    long_left : length record_left ≡ length t
    long_left = length_formatted t at laid_cells record_fits

    cells_left : (i : ℕ) → i < at → get_or record_left i 0 ≡ get_or t i 0
    cells_left = formatted_before t at laid_cells record_fits

    -- home address and R0 stay where the new record comes after R0
    stays : end_at t 7 ≤ at → Records record_left (flag_at t 7) (end_at t 7) → Sound record_left
    stays h r =
        let e : counts_at record_left 7 ≡ counts_at t 7 = counts_kept t record_left at long_left cells_left 7 (omega (arith, count_before t 7)) in
        let home : area_cells record_left home_area ≡ area_cells t home_area =
        area-kept t record_left at long_left cells_left home_area (omega (arith, count_before t 7)) in
        record {
          long = long_left ∙ l;
          home = same_readable t record_left home_area home ∙ S.home;
          r0 = record_kept t record_left at long_left cells_left 7 S.r0 h;
          flag = ap (λ (n : Counts). n.flag) e ∙ S.flag
              ∙ ap (λ (x : List ℕ). flag_of_r0 (get_or x 0 0)) (sym (same_bytes t record_left home_area home));
          rest = subst (λ (n : Counts). Records record_left n.flag (end_by 7 n)) (sym e) r;
        }

    pub record_lasts : (spot : Spot) → IsRecord t spot → at ≡ end_at t (count_first spot) → f ≡ flag_at t (count_first spot) → Sound record_left
    unfolding count_first
    record_lasts R0 B p q =
        stays (omega (arith, p)) (subst (λ (k : ℕ). Records record_left (flag_at t 7) k) p (subst (λ (k : ℕ). Records record_left k at) q new_last))
    record_lasts (Marker s) B p q =
        let m = begun-marker t s B in
        let u : end_at t 7 ≤ s = unmarked t 7 s S.r0 m.0 m.1 in
        stays (omega (arith, u, p, count_before t (s + 1)))
        (records_kept t record_left at long_left cells_left S.rest s u m.1 (omega (arith, p))
        (subst (λ (k : ℕ). Records record_left (flag_at t (s + 1)) k) p (subst (λ (k : ℕ). Records record_left k at) q new_last)))
