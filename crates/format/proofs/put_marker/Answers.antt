-- One cell is stored.
use Prim.Native.Nat.{ℕ}
use mathlib.Core.Path.{ap, ◌∙◌}
use mathlib.Core.List.{[], ◌∷◌}
use native.Mathlib.Omega.{arith}
use Rattle.cells.specs.Cells.{overlay, marker}
use Rattle.cells.proofs.Laws.{set-overlay}
use Rattle.format.proofs.put_marker.Goals as goal

pub returns : goal.returns
returns c = set-overlay _ _ _ (omega arith) ∙ ap (λ (j : ℕ). overlay c.args.track.now j (marker ∷ [])) c.from.ensures
