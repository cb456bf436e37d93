-- The bytes lent on are the part that is sent, as far as it is there.
use mathlib.Core.List.{List}
use mathlib.Core.Path.{ap, ◌∙◌}
use native.Mathlib.Omega.{arith}
use Prim.Native.Nat.{ℕ}
use Rattle.recording.specs.Recording.{area_written}
use Rattle.format.proofs.Calls.{part_there}
use Rattle.format.proofs.lay_area.Goals as goal

pub returns : goal.returns
returns c =
    let x = c.args in
    c.write_area.ensures
    ∙ ap (λ (v : List ℕ). area_written x.track.now x.first v x.n)
    (part_there x.bytes.now x.from x.m c.min-start.result c.min-end.result (omega arith) (omega arith))
