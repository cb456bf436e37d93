-- Areas of two tracks: where the cells are the same an area reads the same. The cells from one on are those of a list: where they are
-- what was laid, the area is readable and holds the bytes. Why: an area is read from its cells alone.
use Prim.Native.Nat.{ℕ, ◌+◌, ◌<◌, ◌≤◌}
use mathlib.Core.Path.{◌≡◌, sym, ap, ◌∙◌, subst}
use mathlib.Core.Bool.{true}
use mathlib.Core.List.{List, [], ◌∷◌, ◌++◌}
use native.Mathlib.Omega.{arith}
use native.Mathlib.Nat.{add_assoc}
use lib.ListN.{length, get_or, take, length-append, get_or-append}
use lib.Seq.{ext_get_or, get_or-append-add}
use Rattle.cells.specs.Cells.{part, overlay, bytes_of}
use Rattle.cells.proofs.Laws.{get_or-part, length_part, part-overlay, overlay_same, length-overlay}
use Rattle.cells.proofs.Numbers.{Bytes}
use Rattle.house_check.specs.Check.{good_cells, cells_with_check}
use Rattle.house_check.proofs.Cells.{length_laid}
use Rattle.areas.specs.declared.{Area.Area, Counts.Counts}
use Rattle.areas.specs.Areas.{area, area_cells, readable, area_bytes, count_area, counts_of, counts_at, key_area, data_area}
use Rattle.areas.proofs.Laws.{length-area_cells}
use Rattle.recording.proofs.Written.{written_readable, written_reads-back}
use Rattle.sound.specs.Sound.{Record}
use Rattle.claim_track.specs.Damage.{In}
use Rattle.claim_track.proofs.Areas.{area_cell}
use Rattle.claim_track.specs.Lasting.{ReadsAs}

-- ---- the same cells

pub same_cells : (t t' : List ℕ) (a : Area) → length t' ≡ length t → ((i : ℕ) → In a i → get_or t' i 0 ≡ get_or t i 0)
    → area_cells t' a ≡ area_cells t a
same_cells t t' a l f =
    ext_get_or 0 (area_cells t' a) (area_cells t a) (omega (arith, length-area_cells t' a, length-area_cells t a, l))
    (λ i h.
    let n : i < a.bytes + 2 = omega (arith, length-area_cells t' a) in
    area_cell t' a i n ∙ f (a.first + i) (omega arith, omega arith) ∙ sym (area_cell t a i n))

module _ (t t' : List ℕ) where
  pub same_readable : (a : Area) → area_cells t' a ≡ area_cells t a → readable t' a ≡ readable t a
  unfolding readable
  same_readable a e = ap (good_cells a.bytes) e

  pub same_bytes : (a : Area) → area_cells t' a ≡ area_cells t a → area_bytes t' a ≡ area_bytes t a
  unfolding area_bytes
  same_bytes a e = ap (λ (l : List ℕ). take a.bytes (bytes_of l)) e

  pub same_counts : (c : ℕ) → area_cells t' (count_area c) ≡ area_cells t (count_area c) → counts_at t' c ≡ counts_at t c
  unfolding counts_at
  same_counts c e = ap counts_of (same_bytes (count_area c) e)

-- a record, by what its count area says
pub record_by : (t : List ℕ) (c : ℕ) (n : Counts) → counts_at t c ≡ n → readable t (count_area c) ≡ true
    → ((n.kl ≡ 0 → ⊥) → readable t (key_area c n) ≡ true) → readable t (data_area c n) ≡ true
    → (n.dl ≡ 0 → area_bytes t (data_area c n) ≡ 0 ∷ []) → Record t c
record_by t c n e count key body empty = record {
  count = count;
  key = λ k. subst (λ (m : Counts). readable t (key_area c m) ≡ true) (sym e) (key (λ z. k (ap (λ (m : Counts). m.kl) e ∙ z)));
  body = subst (λ (m : Counts). readable t (data_area c m) ≡ true) (sym e) body;
  empty = λ z.
      ap (λ (m : Counts). area_bytes t (data_area c m)) e ∙ empty (sym (ap (λ (m : Counts). m.dl) e) ∙ z);
}

-- ---- the cells from c on are those of x

pub record Has (t : List ℕ) (c : ℕ) (x : List ℕ) : Type 0 where
  pub ends : c + length x ≤ length t
  pub cells : (i : ℕ) → i < length x → get_or t (c + i) 0 ≡ get_or x i 0

module _ (t : List ℕ) (c : ℕ) (x y : List ℕ) (H : Has t c (x ++ y)) where
  pub has_front : Has t c x
  has_front = record {
    ends = omega (arith, H.ends, length-append x y);
    cells = λ i h. H.cells i (omega (arith, length-append x y)) ∙ get_or-append x y 0 i h;
  }

  pub has_back : Has t (c + length x) y
  has_back = record {
    ends = omega (arith, H.ends, length-append x y);
    cells = λ i h.
        ap (λ (j : ℕ). get_or t j 0) (add_assoc c (length x) i) ∙ H.cells (length x + i) (omega (arith, length-append x y))
        ∙ get_or-append-add x y i 0;
  }

-- what is laid over is there
pub overlay_has : (t : List ℕ) (c : ℕ) (x : List ℕ) → c + length x ≤ length t → Has (overlay t c x) c x
overlay_has t c x h = record {
  ends = omega (arith, length-overlay t c x h);
  cells = λ i k. sym (get_or-part (overlay t c x) c (length x) i k) ∙ ap (λ (l : List ℕ). get_or l i 0) (part-overlay t c x h);
}

-- laid over once more, it changes nothing
has_is : (t : List ℕ) (c : ℕ) (x : List ℕ) → Has t c x → overlay t c x ≡ t
has_is t c x H =
    let n : length (part t c (length x)) ≡ length x = length_part t c (length x) H.ends in
    let e : x ≡ part t c (length x) =
    ext_get_or 0 x (part t c (length x)) (sym n) (λ i h. sym (H.cells i h) ∙ sym (get_or-part t c (length x) i h)) in
    ap (overlay t c) e ∙ overlay_same t c (length x) H.ends

-- an area whose cells are what was laid
pub has_area : (t : List ℕ) (a : Area) (v : List ℕ) → Bytes v → length v ≡ a.bytes → Has t a.first (cells_with_check v) → ReadsAs t a v
has_area t a v b e H =
    let h : a.first + length v + 2 ≤ length t = omega (arith, H.ends, length_laid v) in
    let same : overlay t a.first (cells_with_check v) ≡ t = has_is t a.first (cells_with_check v) H in
    let it : area a.part a.first (length v) ≡ a = λ i. area a.part a.first (e i) in
    record {
      reads = sym (λ i. readable (same i) (it i)) ∙ written_readable t a.part a.first v b h;
      bytes = sym (λ i. area_bytes (same i) (it i)) ∙ written_reads-back t a.part a.first v b h;
    }
