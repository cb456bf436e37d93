-- Pieces laid on the pack, all under one head, are those pieces laid on that head's track, and the track put back in its place.
use Prim.Native.Nat.{ℕ, ◌+◌, ◌≤◌}
use mathlib.Core.Path.{◌≡◌, refl, sym, ap, ◌∙◌}
use mathlib.Core.List.{List, [], ◌∷◌}
use native.Mathlib.Omega.{arith}
use lib.ListN.{length}
use Rattle.cells.specs.Cells.{overlay, track_cells}
use Rattle.cells.proofs.Laws.{length-overlay, overlay_same}
use Rattle.pack.specs.declared.{Cylinder.Cylinder, Head.Head, Shape.Shape}
use Rattle.pack.specs.Pack.{start_of, track_at, with_track}
use Rattle.pack.proofs.Laws.{length-track}
use Rattle.turn.specs.Turn.{Piece, lay}
use Rattle.command.proofs.Pieces.{PiecesOn}
use Rattle.channel.proofs.Parts.{overlay_inner}
use Rattle.chain.specs.Step.{lay_on}

module _ (g : Shape) (c : Cylinder) (h : Head) (cells : List ℕ) (inside : start_of g c h + track_cells ≤ length cells) where
  piece_on : (p : Piece) (t : List ℕ) → p.head ≡ h → p.first + length p.cells ≤ track_cells → length t ≡ track_cells
      → overlay (with_track cells (start_of g c h) t) (start_of g c p.head + p.first) p.cells
      ≡ with_track cells (start_of g c h) (overlay t p.first p.cells)
  unfolding with_track
  piece_on p t e k long =
      ap (λ (z : Head). overlay (overlay cells (start_of g c h) t) (start_of g c z + p.first) p.cells) e
      ∙ overlay_inner cells t p.cells (start_of g c h) p.first (omega (arith, inside, long)) (omega (arith, k, long))

  pieces_on : (l : List Piece) (t : List ℕ) → PiecesOn h l → length t ≡ track_cells
      → lay_on g c l (with_track cells (start_of g c h) t) ≡ with_track cells (start_of g c h) (lay l t)
  unfolding lay_on lay
  pieces_on [] t p e = refl
  pieces_on (x ∷ l) t p e =
      ap (lay_on g c l) (piece_on x t p.0 p.1 e)
      ∙ pieces_on l (overlay t x.first x.cells) p.2 (length-overlay t x.first x.cells (omega (arith, p.1, e)) ∙ e)

  pub laid_on : (l : List Piece) → PiecesOn h l → lay_on g c l cells ≡ with_track cells (start_of g c h) (lay l (track_at cells (start_of g c h)))
  unfolding track_at with_track
  laid_on l p =
      ap (lay_on g c l) (sym (overlay_same cells (start_of g c h) track_cells inside))
      ∙ pieces_on l (track_at cells (start_of g c h)) p (length-track cells (start_of g c h) inside)
