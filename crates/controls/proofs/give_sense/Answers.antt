-- Each turn lays one byte more over the lent bytes, and the last turn leaves none that has room.
use Prim.Native.Nat.{◌-◌, min}
use mathlib.Core.Path.{◌≡◌, refl, sym, ap, ◌∙◌}
use native.Mathlib.Omega.{arith}
use lib.ListN.{length, length-set}
use Rattle.cells.specs.Cells.{overlay}
use Rattle.cells.proofs.Laws.{overlay_none}
use Rattle.turn.specs.Turn.{filled}
use Rattle.controls.proofs.Laws.{sense_more, sense_room}
use Rattle.controls.proofs.give_sense.Goals as goal

pub loop-i-init : goal.loop-i-init
loop-i-init c = (sym (overlay_none _ _), refl)

pub loop-i-preserved : goal.loop-i-preserved
loop-i-preserved c =
    let a = c.args in
    let l = c.loop-i in
    let n = c.min-n.ensures in
    let left = c.saturating_sub.ensures in
    (rw (l.invariant.0, c.sense_byte.ensures) (sense_more a.s a.from a.into.now l.i (omega (arith, n, left, c.loop-i-test.true)) (omega (arith, n, left, c.loop-i-test.true))), simp length-set l.invariant.1)

pub returns : goal.returns
unfolding filled
returns c =
    let a = c.args in
    let e : c.loop-i.i ≡ min (length a.into.now) (6 - a.from) = omega (arith, c.min-n.ensures, c.saturating_sub.ensures, c.loop-i-test.false, c.loop-i.auto.i-end) in
    c.loop-i.invariant.0 ∙ ap (overlay _ 0) (rw (e) (sense_room a.s a.from _))
