-- By what is named: nothing, the home address's bytes, or a record's. All was readable, so it lies on the track.
use mathlib.Core.Path.{refl}
use native.Mathlib.Omega.{arith}
use Rattle.reads.specs.Inside.{bytes_given}
use Rattle.reads.proofs.Sight.{home_on, record_on, gives_none, puts_given}
use Rattle.reads.proofs.give.Goals as goal

pub cells_at-requires : goal.cells_at-requires
cells_at-requires c = home_on _ _ c.requires c.in-HomeAddress.is

pub put_record-requires : goal.put_record-requires
put_record-requires c = (record_on _ _ c.requires _ _ _ c.in-Count.is, omega arith)

pub returns-in-Nothing : goal.returns-in-Nothing
returns-in-Nothing c v = gives_none _ _ c.requires _ v c.in-Nothing.is _ _

pub returns-in-HomeAddress : goal.returns-in-HomeAddress
unfolding bytes_given
returns-in-HomeAddress c v = puts_given _ _ c.requires _ v _ c.in-HomeAddress.is _ _ _ _ _ refl (rw c.cells_at.ensures at c.put.ensures)

pub returns-in-Count : goal.returns-in-Count
unfolding bytes_given
returns-in-Count c v = puts_given _ _ c.requires _ v _ c.in-Count.is _ _ _ _ _ refl c.put_record.ensures
