-- `hunt::pass_over` meets its contract: only cells without a marker are passed, and they make no difference to the hunt.
-- The invariant: the hunt from the cell in hand is the hunt from the first, and no cell between them holds a marker.
use mathlib.Core.Path.{refl, sym, ◌∙◌}
use native.Mathlib.Omega.{arith}
use Rattle.hunt.proofs.Laws.{hunt_bare, none_passed, bare_more}
use borrow.Author.Tests.{not-false}
use Rattle.hunt.proofs.pass_over.Goals as goal

pub loop-i-init : goal.loop-i-init
loop-i-init c = (omega arith, refl, omega arith, none_passed c.args.track.now c.args.from)

pub loop-i-preserved : goal.loop-i-preserved
loop-i-preserved c =
    let l = c.loop-i in
    let none = sym c.is_bare.ensures ∙ not-false _ c.if-not-is_bare.false-raw in
    let bare = rw (c.from-at.ensures, c.from.ensures) at none in
    (omega arith, hunt_bare _ _ _ _ l.invariant.1 (omega arith) (omega arith) bare, omega arith, bare_more _ _ _ _ l.invariant.0 (omega arith) l.invariant.3 bare)
