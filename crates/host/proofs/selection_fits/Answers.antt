-- `host::selection_fits` meets its contract, case by case: a mark stands for a marker.
use Rattle.host.proofs.Tells.{none_selected, some_selected, spot_r0, spot_marker}
use Rattle.host.proofs.selection_fits.Goals as goal

pub returns-in-None : goal.returns-in-None
returns-in-None c = none_selected _ _ _ _ c.in-None.is c.rule_of.ensures

pub returns-in-R0 : goal.returns-in-R0
returns-in-R0 c = some_selected _ _ _ _ _ c.in-Some.is (spot_r0 _ _ c.in-R0.is)

pub returns-in-Marker : goal.returns-in-Marker
returns-in-Marker c = some_selected _ _ _ _ _ c.in-Some.is (spot_marker _ _ _ _ c.in-Marker.is c.is_marker.ensures)
