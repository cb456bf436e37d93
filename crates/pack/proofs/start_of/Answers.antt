-- `pack::start_of` meets its contract: a track of the pack has a number below the number of tracks.
use mathlib.Core.Path.{refl}
use native.Mathlib.Omega.{arith}
use Rattle.pack.specs.Pack.{start_of}
use Rattle.pack.proofs.Laws.{track_below}
use Rattle.pack.proofs.start_of.Goals as goal

pub returns : goal.returns
unfolding start_of
returns c = rw (c.from-cylinder.ensures, c.from-head.ensures) (refl, omega (arith, track_below _ _ _ c.requires.2))
