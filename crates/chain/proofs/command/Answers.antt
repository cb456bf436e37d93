-- Only the track's cells are lent, they come back in their place, and a command works on that track alone.
use native.Mathlib.Omega.{arith}
use Rattle.chain.proofs.Laws.{commanded, lent_serves}
use Rattle.chain.proofs.Fits.{position_on_lem, standing}
use Rattle.chain.proofs.command.Goals as goal

pub start_of-start-requires : goal.start_of-start-requires
start_of-start-requires c =
    let p = c.requires.0 in
    (p.whole.cylinders, p.whole.heads, position_on_lem _ _ (standing _ _ p))

pub obey-requires : goal.obey-requires
obey-requires c =
    let p = c.requires in
    lent_serves _ _ _ _ _ p.0 _ c.start_of-start.ensures.0 p.1

pub returns : goal.returns
returns c =
    let did = c.obey in
    let at = c.start_of-start in
    let p = c.requires in
    commanded _ _ _ _ _ p.0 _ _ _ _ at.ensures.0 (omega (arith, at.ensures.1, p.0.whole.count)) p.1 did.ensures did.auto.cells
