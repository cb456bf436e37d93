-- Count, key and data are laid one behind the other.
use Prim.Native.Nat.{ℕ, ◌+◌}
use mathlib.Core.Path.{ap, ◌∙◌}
use native.Mathlib.Omega.{arith}
use Rattle.cells.specs.Cells.{part}
use Rattle.recording.specs.Recording.{area_written, count_written}
use Rattle.format.proofs.Calls.{count_fits, key_fits, data_fits, record_laid}
use Rattle.format.proofs.lay_record.Goals as goal

pub write_count-requires : goal.write_count-requires
write_count-requires c =
    let x = c.args in
    record { ends = omega (arith, count_fits x.track.now x.c x.flag x.bytes.now x.n c.requires.counts c.requires.ends, c.from.ensures) }

pub lay_key-requires : goal.lay_key-requires
lay_key-requires c =
    let x = c.args in
    key_fits x.track.now x.c x.flag x.bytes.now x.n c.requires.counts c.requires.ends _ _ c.key_area-key.ensures c.write_count.auto.track

pub lay_area-requires : goal.lay_area-requires
lay_area-requires c =
    let x = c.args in
    record { ends = data_fits x.track.now x.c x.flag x.bytes.now x.n c.requires.counts c.requires.ends _ _ c.data_area-d.ensures (c.lay_key.auto.track ∙ c.write_count.auto.track) }

pub returns : goal.returns
returns c =
    let x = c.args in
    record_laid x.track.now x.c x.flag x.bytes.now x.n c.requires.counts c.requires.ends _ _ _ _ _ c.key_area-key.ensures c.data_area-d.ensures
    (c.write_count.ensures ∙ ap (λ (j : ℕ). count_written x.track.now j x.flag x.bytes.now) c.from.ensures) c.lay_key.ensures
    (c.lay_area.ensures ∙ ap (λ (m : ℕ). area_written c.lay_key.new.track c.data_area-d.result.first (part x.bytes.now (8 + m) x.n.dl) c.data_area-d.result.bytes) c.from-from.ensures)
