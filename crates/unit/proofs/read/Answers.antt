-- The areas are those that the row names at the task's place; what they give is the job's counts, or its row.
use Rattle.std.proofs.lemmas.Result.{err_from_is_err_and}
use Rattle.turn.specs.Turn.{alone}
use Rattle.unit.proofs.Laws.{all_read_lem, not_read}
use Rattle.unit.proofs.read.Goals as goal

pub returns-in_err-counts : goal.returns-in_err-counts
returns-in_err-counts c =
    let p = err_from_is_err_and c.from_residual.result c.from_residual.ensures.1 in
    rw (p.1, p.2) (not_read (alone c.args.track.now) _ c.args.r _ _ c.args.k _ c.get.ensures _ c.in_err-counts.was)

pub returns : goal.returns
returns c = all_read_lem (alone c.args.track.now) _ c.args.r _ _ c.args.k _ c.get.ensures _ c.in_ok-counts.was
