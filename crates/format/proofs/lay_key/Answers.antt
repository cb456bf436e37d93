-- The key area is written where there is one.
use Prim.Native.Nat.{ℕ}
use mathlib.Core.Path.{ap₂, ◌∙◌}
use Rattle.cells.specs.Cells.{part}
use Rattle.recording.specs.Recording.{area_written}
use native.Mathlib.Omega.{arith}
use Rattle.format.proofs.Calls.{key_lies, key_laid, key_none}
use Rattle.format.proofs.lay_key.Goals as goal

pub lay_area-requires : goal.lay_area-requires
lay_area-requires c =
    let x = c.args in
    record { ends = omega (arith, key_lies x.track.now x.first x.bytes.now x.n c.if-n-gt0.true c.requires, c.from-kl.ensures, c.from.ensures) }

pub returns-then-n-gt0 : goal.returns-then-n-gt0
returns-then-n-gt0 c =
    let x = c.args in
    c.lay_area.ensures
    ∙ ap₂ (λ (m k : ℕ). area_written x.track.now x.first (part x.bytes.now 8 m) k) c.from-kl.ensures (c.from.ensures ∙ c.from-kl.ensures)
    ∙ key_laid _ _ _ _ c.if-n-gt0.true

pub returns-else-n-gt0 : goal.returns-else-n-gt0
returns-else-n-gt0 c = key_none _ _ _ _ (omega arith)
