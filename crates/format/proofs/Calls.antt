-- What the code's calls come to, in the model's words: bytes of a count, a part of the bytes sent, areas laid one behind the other, an area's
-- cells looked at.
use Prim.Native.Nat.{ℕ, zero, suc, ◌+◌, ◌-◌, ◌*◌, ◌<◌, ◌≤◌, min}
use mathlib.Core.Path.{◌≡◌, refl, sym, ap, ap₂, ◌∙◌}
use mathlib.Core.Bool.{Bool, false}
use mathlib.Core.List.{List, [], ◌∷◌, ◌++◌, append_assoc}
use native.Mathlib.Omega.{arith}
use native.Mathlib.Decide.{dec_le}
use lib.ListN.{length, get_or, take, drop, length-append, length-drop, drop_of_length-le}
use lib.Seq.{take-nil}
use Rattle.std.proofs.lemmas.List.{take_min}
use lib.Dec.{lit<}
use borrow.Author.Tests.{eq-eqb, ne_eqb}
use Rattle.cells.specs.Cells.{pick, both, part, overlay, padded, marker, all_bytes}
use Rattle.cells.proofs.Laws.{length-padded, overlay_none, overlay-append}
use Rattle.house_check.specs.Check.{cells_with_check}
use Rattle.house_check.proofs.Cells.{length_laid}
use mathlib.Core.Logic.{◌⊎◌, inl, inr}
use denote.Bor.{Bor}
use Rattle.std.specs.Prelude.{Some, None, Option}
use Rattle.std.specs.Option.{MatchOption}
use Rattle.std.specs.List.{slice_range}
use Rattle.areas.specs.declared.{Area.Area, Counts.Counts}
use Rattle.areas.specs.Areas.{area_cells, counts_by, counts_of, key_cells, data_bytes, key_area, data_area, record_cells}
use Rattle.areas.proofs.Laws.{length-area_cells, some_key}
use Rattle.recording.specs.Recording.{area_written, count_written}
use Rattle.format.specs.Format.{new_counts, new_key, new_data, new_record, recorded, Ends}
use Rattle.format.proofs.Laws.{length_key, length-new}

-- ---- what the count of a new record says

padded_at : (n : ℕ) (v : List ℕ) (i : ℕ) → i < n → get_or (padded n v) i 0 ≡ get_or v i 0
unfolding padded
padded_at zero v i h = absurd (omega arith)
padded_at (suc n) [] zero h = refl
padded_at (suc n) [] (suc i) h = padded_at n [] i (omega arith)
padded_at (suc n) (b ∷ v) zero h = refl
padded_at (suc n) (b ∷ v) (suc i) h = padded_at n v i (omega arith)

module _ (flag : ℕ) (v : List ℕ) where
  one : (i : ℕ) → i < 8 → get_or v i 0 ≡ get_or (padded 8 v) i 0
  one i h = sym (padded_at 8 v i h)

  two : (i : ℕ) → i < 7 → get_or v i 0 * 256 + get_or v (i + 1) 0 ≡ get_or (padded 8 v) i 0 * 256 + get_or (padded 8 v) (i + 1) 0
  two i h = ap₂ (λ (a b : ℕ). a * 256 + b) (one i (omega arith)) (one (i + 1) (omega arith))

  pub counts_new : (n : Counts) → n ≡ counts_by flag (λ i. get_or v (0 + i) 0) → n ≡ new_counts flag v
  unfolding counts_by new_counts counts_of
  counts_new n e = e ∙ λ i. record {
    flag = flag;
    cc = two 0 (lit< tt) i;
    hh = two 2 (lit< tt) i;
    r = one 4 (lit< tt) i;
    kl = one 5 (lit< tt) i;
    dl = two 6 (lit< tt) i;
  }

-- ---- a part of the bytes sent, as far as they are there

pub part_there : (v : List ℕ) (from m start end : ℕ) → start ≡ min from (length v) → end ≡ min (from + m) (length v)
    → take (end - start) (drop start v) ≡ part v from m
unfolding part
part_there v from m start end p q = go (dec_le from (length v))
  where
    go : Dec (from ≤ length v) → take (end - start) (drop start v) ≡ take m (drop from v)
    go (yes h) =
        let s : start ≡ from = omega arith in
        let n : end - start ≡ min m (length (drop from v)) = omega (arith, length-drop from v) in
        ap₂ (λ (k j : ℕ). take k (drop j v)) n s ∙ take_min m (drop from v)
    go (no h) =
        let far : length v ≤ from = omega arith in
        let end₀ : length v ≤ start = omega arith in
        let none : drop from v ≡ [] = drop_of_length-le v far in
        let s : drop start v ≡ [] = drop_of_length-le v end₀ in
        let n : end - start ≡ 0 = omega arith in
        ap₂ (λ (k : ℕ) (l : List ℕ). take k l) n s ∙ sym (ap (take m) none ∙ take-nil m)

-- ---- a key, if there is one

module _ (t : List ℕ) (first : ℕ) (v : List ℕ) (n : Counts) where
  pub key_lies : (0 < n.kl) → first + length (new_key n v) ≤ length t → first + n.kl + 2 ≤ length t
  key_lies h e = omega (arith, length_key n v, some_key n (λ z. omega arith))

  pub key_laid : 0 < n.kl → area_written t first (part v 8 n.kl) n.kl ≡ overlay t first (new_key n v)
  unfolding new_key area_written
  key_laid h =
      ap (λ (b : Bool). overlay t first (pick b [] (cells_with_check (padded n.kl (part v 8 n.kl))))) (sym (ne_eqb n.kl 0 (λ z. omega arith)))

  pub key_none : n.kl ≡ 0 → t ≡ overlay t first (new_key n v)
  unfolding new_key
  key_none e =
      sym (overlay_none t first)
      ∙ ap (λ (b : Bool). overlay t first (pick b [] (cells_with_check (padded n.kl (part v 8 n.kl))))) (sym (eq-eqb n.kl 0 e))

-- ---- count, key and data, one behind the other

module _ (t : List ℕ) (c flag : ℕ) (v : List ℕ) (n : Counts) (e : n ≡ new_counts flag v) (ends : c + record_cells n ≤ length t) where
  count_long : length (cells_with_check (flag ∷ padded 8 v)) ≡ 11
  count_long = length_laid (flag ∷ padded 8 v) ∙ ap (λ (k : ℕ). suc k + 2) (length-padded 8 v)

  pub count_fits : c + 9 + 2 ≤ length t
  unfolding record_cells
  count_fits = omega arith

  -- on a track as long as it was
  pub key_fits : (k : Area) (m : ℕ) → k ≡ key_area c n → m ≡ length t → k.first + length (new_key n v) ≤ m
  unfolding record_cells key_area
  key_fits k m p l = omega (arith, ap (λ (a : Area). a.first) p, length_key n v)

  pub data_fits : (d : Area) (m : ℕ) → d ≡ data_area c n → m ≡ length t → d.first + d.bytes + 2 ≤ m
  unfolding record_cells data_area
  data_fits d m p l = omega (arith, ap (λ (a : Area). a.first) p, ap (λ (a : Area). a.bytes) p)

  pub record_laid : (k d : Area) (t₁ t₂ t₃ : List ℕ) → k ≡ key_area c n → d ≡ data_area c n → t₁ ≡ count_written t c flag v
      → t₂ ≡ overlay t₁ k.first (new_key n v) → t₃ ≡ area_written t₂ d.first (part v (8 + n.kl) n.dl) d.bytes
      → t₃ ≡ overlay t c (new_record flag v)
  unfolding count_written area_written new_record new_data record_cells key_area data_area
  record_laid k d t₁ t₂ t₃ p q e₁ e₂ e₃ =
      let x : List ℕ = cells_with_check (flag ∷ padded 8 v) in
      let y : List ℕ = new_key n v in
      let z : List ℕ = cells_with_check (padded (data_bytes n) (part v (8 + n.kl) n.dl)) in
      let zl : length z ≡ data_bytes n + 2 = length_laid _ ∙ ap (λ (j : ℕ). j + 2) (length-padded (data_bytes n) _) in
      let xy : length (x ++ y) ≡ 11 + key_cells n = omega (arith, length-append x y, count_long, length_key n v) in
      let first : t₂ ≡ overlay t c (x ++ y) =
      e₂ ∙ ap₂ (λ (u : List ℕ) (a : Area). overlay u a.first y) e₁ p
      ∙ ap (λ (j : ℕ). overlay (overlay t c x) (c + j) y) (sym count_long)
      ∙ overlay-append t c x y (omega (arith, count_long, length_key n v)) in
      let there : c + 11 + key_cells n ≡ c + length (x ++ y) = omega arith in
      e₃ ∙ ap₂ (λ (u : List ℕ) (a : Area). overlay u a.first (cells_with_check (padded a.bytes (part v (8 + n.kl) n.dl)))) first q
      ∙ ap (λ (j : ℕ). overlay (overlay t c (x ++ y)) j z) there
      ∙ overlay-append t c (x ++ y) z (omega arith)
      ∙ ap (overlay t c) (append_assoc x y z)
      ∙ ap (λ (m : Counts). overlay t c (x ++ (new_key m v ++ cells_with_check (padded (data_bytes m) (part v (8 + m.kl) m.dl))))) e

-- ---- a marker before the record

pub marked_laid : (t : List ℕ) (p flag : ℕ) (v : List ℕ) (n : Counts) (t₁ t₂ : List ℕ) → Ends t (p + 1) flag v n → t₁ ≡ overlay t p (marker ∷ [])
    → t₂ ≡ overlay t₁ (p + 1) (new_record flag v) → t₂ ≡ overlay t p (marker ∷ new_record flag v)
marked_laid t p flag v n t₁ t₂ e f g =
    let cells : length (new_record flag v) ≡ record_cells n = length-new flag v ∙ ap record_cells (sym e.counts) in
    g ∙ ap (λ (x : List ℕ). overlay x (p + 1) (new_record flag v)) f
    ∙ overlay-append t p (marker ∷ []) (new_record flag v) (omega (arith, e.ends, cells))

-- ---- an area off the track is not all bytes; one on it is where its lent cells are

module _ (t : List ℕ) (a : Area) where
  pub off_recorded : length t < a.first + a.bytes + 2 → recorded t a ≡ false
  unfolding recorded
  off_recorded h =
      ap (λ (b : Bool). both b (all_bytes (area_cells t a)))
      (ne_eqb (length (area_cells t a)) (a.bytes + 2) (λ e. omega (arith, length-area_cells t a)))

  pub on_recorded : (n : ℕ) → n ≡ a.bytes + 2 → a.first + a.bytes + 2 ≤ length t → all_bytes (take n (drop a.first t)) ≡ recorded t a
  unfolding recorded area_cells part
  on_recorded n e h =
      let l : length (area_cells t a) ≡ a.bytes + 2 = length-area_cells t a ∙ omega arith in
      ap (λ (m : ℕ). all_bytes (take m (drop a.first t))) e
      ∙ sym (ap (λ (b : Bool). both b (all_bytes (area_cells t a))) (eq-eqb (length (area_cells t a)) (a.bytes + 2) l))

-- by the cells that `get` lends, if it lends any
pub recorded_lent : (t : List ℕ) (a : Area) (g : Option (Bor (List ℕ))) (r : Bool)
    → MatchOption g ((a.first + a.bytes + 2 < a.first) ⊎ (length t < a.first + a.bytes + 2))
    (λ x. (a.first ≤ a.first + a.bytes + 2) × (a.first + a.bytes + 2 ≤ length t) × (x.now ≡ slice_range t a.first (a.first + a.bytes + 2))
    × (length x.now + a.first ≡ a.first + a.bytes + 2))
    → MatchOption g (r ≡ false) (λ x. r ≡ all_bytes x.now) → r ≡ recorded t a
recorded_lent t a None r (inl h) p = absurd (omega arith)
recorded_lent t a None r (inr h) p = p ∙ sym (off_recorded t a h)
recorded_lent t a (Some x) r (l, h, e, n) p = p ∙ ap all_bytes e ∙ on_recorded t a (a.first + a.bytes + 2 - a.first) (omega arith) h
