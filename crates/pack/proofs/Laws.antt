-- Laws of the pack: a track of it lies inside its cells, and a track that is lent on comes back in its place, every other cell as it was.
use Prim.Native.Nat.{ℕ, suc, ◌+◌, ◌-◌, ◌*◌, ◌<◌, ◌≤◌}
use mathlib.Core.Path.{◌≡◌, ap, ◌∙◌}
use mathlib.Core.List.{List, ◌++◌, append_assoc}
use mathlib.Core.Logic.{◌⊎◌, ⊎_elim}
use native.Mathlib.Nat.{mul-le-mul, suc-mul, mul-le-mul_right}
use native.Mathlib.Omega.{arith}
use lib.ListN.{length, take, drop, get_or}
use lib.Seq.{drop-drop}
use borrow.Rule.Slice.PartMut.{put_mid}
use Rattle.cells.specs.Cells.{part, overlay, track_cells}
use Rattle.cells.proofs.Laws.{length_part, overlay_before, overlay-behind}
use Rattle.pack.specs.declared.{Cylinder.Cylinder, Head.Head, Shape.Shape}
use Rattle.pack.specs.Pack.{most_cylinders, most_heads, WholePack, OnPack, track_no, start_of, track_at, with_track}

-- ---- where a track lies

row : (c h C H : ℕ) → c < C → h < H → c * H + h < C * H
row c h C H p q =
    let e : suc c * H ≡ c * H + H = suc-mul c H in
    let m : suc c * H ≤ C * H = mul-le-mul_right H p in
    omega arith

module _ (g : Shape) (c : Cylinder) (h : Head) (on : OnPack g c h) where
  -- a track's number is below the number of tracks
  pub track_below : track_no g c h < g.cylinders * g.heads
  track_below = row c.0 h.0 g.cylinders g.heads on.cylinder on.head

  pub start_inside : (cells : List ℕ) → WholePack g cells → start_of g c h + track_cells ≤ length cells
  unfolding start_of
  start_inside cells w = omega (arith, track_below, w.count)

-- of tracks there are at most 2,030
pub few : (g : Shape) → g.cylinders ≤ most_cylinders → g.heads ≤ most_heads → g.cylinders * g.heads ≤ 2030
few g p q = mul-le-mul p q

-- ---- a track lent on

pub length-track : (cells : List ℕ) (a : ℕ) → a + track_cells ≤ length cells → length (track_at cells a) ≡ track_cells
unfolding track_at
length-track cells a h = length_part cells a track_cells h

-- what is lent is the track
pub lent_is : (cells : List ℕ) (a : ℕ) → take (a + 4096 - a) (drop a cells) ≡ track_at cells a
unfolding track_at part
lent_is cells a =
    let k : a + 4096 - a ≡ 4096 = omega arith in
    rw k

-- and comes back in its place, changed to f of it
pub lent_back : (f : List ℕ → List ℕ) (cells t : List ℕ) (a b : ℕ) → a ≡ b → a + 4096 ≤ length cells
    → length t ≡ length (take (a + 4096 - a) (drop a cells)) → t ≡ f (take (a + 4096 - a) (drop a cells))
    → put_mid a (a + 4096 - a) cells t ≡ with_track cells b (f (track_at cells b))
unfolding with_track overlay
lent_back f cells t a b e h l is =
    let k : a + 4096 - a ≡ 4096 = omega arith in
    let n : length t ≡ 4096 = l ∙ ap length (lent_is cells a) ∙ length-track cells a h in
    let back : put_mid a (a + 4096 - a) cells t ≡ take a cells ++ t ++ drop (a + length t) cells = rw (k, drop-drop, n, append_assoc) in
    back ∙ ap (λ (x : List ℕ). take a cells ++ x ++ drop (a + length x) cells) (is ∙ ap f (lent_is cells a))
    ∙ ap (λ (k : ℕ). take k cells ++ f (track_at cells k) ++ drop (k + length (f (track_at cells k))) cells) e

-- every cell outside the track is as it was
pub others_kept : (cells t : List ℕ) (a i : ℕ) → length t ≡ track_cells → a + track_cells ≤ length cells → (i < a) ⊎ (a + track_cells ≤ i)
    → get_or (with_track cells a t) i 0 ≡ get_or cells i 0
unfolding with_track
others_kept cells t a i l h o =
    ⊎_elim (λ k. overlay_before cells a t i (omega arith) k) (λ k. overlay-behind cells a t i (omega arith) (omega arith)) o
