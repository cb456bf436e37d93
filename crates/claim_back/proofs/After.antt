-- With no later write on a track its cells stay. Why: an allowance and a go change no cell of a track on which no write is done (`claim_sound:Tracks`),
-- a start changes none.
use Prim.Native.Nat.{ℕ, ◌-◌, ◌*◌}
use mathlib.Core.Path.{◌≡◌, refl, ap, ◌∙◌}
use mathlib.Core.List.{List}
use lib.ListN.{length}
use Rattle.cells.specs.Cells.{track_cells}
use Rattle.pack.specs.declared.{Shape.Shape}
use Rattle.pack.specs.Pack.{track_at}
use Rattle.channel.specs.Channel.{World}
use Rattle.claim_box.proofs.Runs.{run_confined}
use Rattle.claim_box.proofs.Calls.{call_confined}
use Rattle.claim_sound.proofs.Tracks.{run_same, go_same}
use Rattle.claim_back.specs.Back.{Since, now, words, start, go, host}

module _ (g : Shape) (m : ℕ) where
  pub track-kept : (w v : World) → Since g m w v
      → (track_at v.cells (m * track_cells) ≡ track_at w.cells (m * track_cells)) × (length v.cells ≡ length w.cells)
  track-kept w v now = (refl, refl)
  track-kept w v (words {v = u} n s L e) =
      let r = track-kept w u s in
      (run_same g m n u L e ∙ r.0, (run_confined g n u L).long ∙ r.1)
  track-kept w v (start {v = u} s) =
      let r = track-kept w u s in
      let e = (call_confined g 0 u).start_cells in
      (ap (λ (c : List ℕ). track_at c (m * track_cells)) e ∙ r.0, ap length e ∙ r.1)
  track-kept w v (go {v = u} n s e) =
      let r = track-kept w u s in
      (go_same g m n u e ∙ r.0, (call_confined g n u).long ∙ r.1)
  track-kept w v (host h st s) = track-kept w _ s
