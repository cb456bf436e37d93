-- By what is named.
use Rattle.sight.proofs.Laws.{counts_none, nothing_named, home_fails, home_read}
use Rattle.sight.proofs.get.Goals as goal

pub returns-in-Nothing : goal.returns-in-Nothing
returns-in-Nothing c h = nothing_named _ _ _ _ _ c.in-Nothing.is (counts_none c.default.result c.default.ensures)

pub returns-in_err-check-in-HomeAddress : goal.returns-in_err-check-in-HomeAddress
returns-in_err-check-in-HomeAddress c h =
    home_fails _ _ _ _ _ _ c.in-HomeAddress.is c.home_area.ensures c.check.ensures _ _ c.in_err-check-in-HomeAddress.was c.from_residual.ensures.1

pub returns-in_ok-check-in-HomeAddress : goal.returns-in_ok-check-in-HomeAddress
returns-in_ok-check-in-HomeAddress c h =
    home_read _ _ _ _ _ _ c.in-HomeAddress.is c.home_area.ensures c.check.ensures _ _ c.in_ok-check-in-HomeAddress.was (counts_none c.default-in-HomeAddress.result c.default-in-HomeAddress.ensures)
