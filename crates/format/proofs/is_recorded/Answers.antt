-- An area off the track is not all recorded; of one on it the lent cells are looked at.
use Rattle.format.proofs.Calls.{recorded_lent}
use Rattle.format.proofs.is_recorded.Goals as goal

pub returns : goal.returns
returns c = recorded_lent _ _ c.get.result _ c.get.ensures.lookup.0 c.is_some_and.ensures
