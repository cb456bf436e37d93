-- The data's check is made first, and the key's row stands over its row.
use mathlib.Core.Path.{ap, ◌∙◌}
use lib.Dec.{ltb}
use Rattle.cells.specs.Cells.{both}
use Rattle.sight.proofs.Laws.{key_fails, data_fails, named_read}
use Rattle.sight.proofs.read_named.Goals as goal

pub returns-in_err-check_if : goal.returns-in_err-check_if
returns-in_err-check_if c h = key_fails _ _ _ _ _ _ _ _ _ (c.is_there-2.ensures ∙ ap (λ l. both c.args.key (ltb 0 l)) c.from.ensures) c.key_area.ensures c.check_if.ensures _ _ c.in_err-check_if.was c.from_residual.ensures.1

pub returns-in_err-data : goal.returns-in_err-data
returns-in_err-data c h =
    data_fails _ _ _ _ _ _ _ _ _ (c.is_there-2.ensures ∙ ap (λ l. both c.args.key (ltb 0 l)) c.from.ensures) c.key_area.ensures c.check_if.ensures _ _ _ c.is_there.ensures c.data_area.ensures c.check_if-data.ensures
    _ _ _ c.in_ok-check_if.was c.in_err-data.was c.from_residual-in_err-data.ensures.1

pub returns : goal.returns
returns c h =
    named_read _ _ _ _ _ _ _ _ _ (c.is_there-2.ensures ∙ ap (λ l. both c.args.key (ltb 0 l)) c.from.ensures) c.key_area.ensures c.check_if.ensures _ _ _ c.is_there.ensures c.data_area.ensures c.check_if-data.ensures
    _ _ c.in_ok-check_if.was c.in_ok-data.was
