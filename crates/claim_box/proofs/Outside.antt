-- Outside of what is laid over nothing changes, by the test of the claims; nor on another track.
use Prim.Native.Nat.{ℕ, ◌+◌, ◌-◌, ◌*◌, ◌<◌, ◌≤◌, min}
use mathlib.Core.Path.{◌≡◌, refl, sym, ap, ◌∙◌}
use mathlib.Core.Bool.{Bool, true, false, false≢true}
use mathlib.Core.List.{List}
use mathlib.Core.Logic.{◌⊎◌, inl, inr, ⊎_elim}
use native.Mathlib.Omega.{arith}
use native.Mathlib.Decide.{dec_lt}
use lib.ListN.{length, get_or, drop, length-take, length-drop}
use lib.Seq.{get_or-take, get_or-drop, ext_get_or}
use lib.Dec.{ltb, leb}
use borrow.Author.Tests.{ltb-true, ltb-false, leb-true, le-leb, lt-leb, le-ltb}
use Rattle.cells.specs.Cells.{pick, both, either, part, overlay, track_cells}
use Rattle.cells.proofs.Laws.{get_or-part, part-overlay, overlay_before, overlay-behind}
use Rattle.cells.proofs.Tests.{first_of, second_of}
use Rattle.pack.specs.Pack.{track_at, with_track}
use Rattle.claim_box.specs.Confined.{among}
use Rattle.claim_box.specs.Demand3.{track}

-- what holds of each side of a choice, by its test, holds of the choice
pub pick_by : {A : Type 0} (P : A → Type 0) (b : Bool) {x y : A} → (b ≡ true → P x) → (b ≡ false → P y) → P (pick b x y)
pick_by P true p q = p refl
pick_by P false p q = q refl

-- neither of two tests
pub neither : (a b : Bool) → either a b ≡ false → (a ≡ false) × (b ≡ false)
neither true b e = absurd (false≢true (sym e))
neither false b e = (refl, e)

-- before or behind
pub out_of : (first n i : ℕ) → among first n i ≡ false → (i < first) ⊎ (first + n ≤ i)
out_of first n i e = go (dec_lt i first)
  where
    go : Dec (i < first) → (i < first) ⊎ (first + n ≤ i)
    go (yes k) = inl k
    go (no k) =
        let p : leb first i ≡ true = le-leb first i (omega arith) in
        inr (ltb-false i (first + n) (ap (λ (b : Bool). both b (ltb i (first + n))) (sym p) ∙ e))

pub out_test : (first n i : ℕ) → (i < first) ⊎ (first + n ≤ i) → among first n i ≡ false
out_test first n i o =
    ⊎_elim (λ k. ap (λ (b : Bool). both b (ltb i (first + n))) (lt-leb first i k))
    (λ k. behind (leb first i) (le-ltb i (first + n) k)) o
  where
    behind : (b : Bool) → ltb i (first + n) ≡ false → both b (ltb i (first + n)) ≡ false
    behind true e = e
    behind false e = refl

pub in_between : (first n i : ℕ) → among first n i ≡ true → (first ≤ i) × (i < first + n)
in_between first n i e = (leb-true first i (first_of (leb first i) _ e), ltb-true i (first + n) (second_of (leb first i) _ e))

module _ (l : List ℕ) (at : ℕ) (v : List ℕ) where
  pub overlay-kept : (i : ℕ) → at ≤ length l → among at (length v) i ≡ false → get_or (overlay l at v) i 0 ≡ get_or l i 0
  overlay-kept i h e = ⊎_elim (λ k. overlay_before l at v i h k) (λ k. overlay-behind l at v i h k) (out_of at (length v) i e)

  pub overlay_inside : (j : ℕ) → at + length v ≤ length l → j < length v → get_or (overlay l at v) (at + j) 0 ≡ get_or v j 0
  overlay_inside j h k = sym (get_or-part (overlay l at v) at (length v) j k) ∙ ap (λ (x : List ℕ). get_or x j 0) (part-overlay l at v h)

-- ---- tracks of a pack

-- the cells of another track lie before or behind
pub apart : (m k i : ℕ) → (m ≡ k → ⊥) → i < track_cells → (m * track_cells + i < k * track_cells) ⊎ (k * track_cells + track_cells ≤ m * track_cells + i)
apart m k i d h = go (dec_lt m k)
  where
    go : Dec (m < k) → (m * 4096 + i < k * 4096) ⊎ (k * 4096 + 4096 ≤ m * 4096 + i)
    go (yes q) = inl (omega arith)
    go (no q) = inr (omega arith)

-- a track that was put into the pack is found there
pub put_found : (cells t : List ℕ) (a : ℕ) → length t ≡ track_cells → a + track_cells ≤ length cells → track_at (with_track cells a t) a ≡ t
unfolding track_at with_track
put_found cells t a l h = ap (part (overlay cells a t) a) (sym l) ∙ part-overlay cells a t (omega (arith, l))

-- the same cells are the same track
pub same_track : (c c' : List ℕ) (m : ℕ) → length c' ≡ length c → ((i : ℕ) → i < track_cells → get_or c' (m * track_cells + i) 0 ≡ get_or c (m * track_cells + i) 0)
    → track c' m ≡ track c m
unfolding track_at part
same_track c c' m e f =
    ext_get_or 0 _ _ (simp (length-take, length-drop) (ap (λ (k : ℕ). min 4096 (k - m * 4096)) e))
    (λ i h.
    let k : i < 4096 = omega (arith, length-take 4096 (drop (m * 4096) c')) in
    get_or-take 4096 (drop (m * 4096) c') i 0 k ∙ get_or-drop (m * 4096) c' i 0 ∙ f i k
    ∙ sym (get_or-take 4096 (drop (m * 4096) c) i 0 k ∙ get_or-drop (m * 4096) c i 0))
