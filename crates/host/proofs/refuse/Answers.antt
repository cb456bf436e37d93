-- `host::refuse` meets its contract: two bytes are stored.
use mathlib.Core.Path.{refl}
use native.Mathlib.Omega.{arith}
use lib.ListN.{length-set}
use Rattle.host.specs.Host.{refuses_start}
use Rattle.host.proofs.Tells.{hears_eq, two_bytes}
use Rattle.host.proofs.refuse.Goals as goal

pub bounds-storage-69 : goal.bounds-storage-69
bounds-storage-69 c = simp length-set (omega arith)

pub returns : goal.returns
unfolding refuses_start
returns c = λ x. hears_eq refl refl (two_bytes _ c.requires) refl
