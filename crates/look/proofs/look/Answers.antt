-- `look::look` makes the model's tests, in the model's order.
use Rattle.std.proofs.lemmas.Option.{MatchOption-at_some}
use Rattle.std.proofs.Common.{arith}
use Rattle.look.proofs.Laws.{of_number, look_told}
use Rattle.look.proofs.look.Goals as goal

pub returns : goal.returns
returns c =
    let whole = MatchOption-at_some _ _ c.in_ok-track.track c.in_ok-track.ensures.ok_part c.as_array.ensures.cases in
    look_told _ _ _ _ c.in-Ok.part _ whole.long whole.same (of_number _ _ c.args.p c.in-Ok.ensures (omega arith)) c.look_part.ensures
