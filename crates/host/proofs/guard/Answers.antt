-- `host::guard` meets its contract: 2, 3, then 4.
use Rattle.std.proofs.lemmas.Result.{err_from_is_err_and}
use Rattle.host.proofs.Laws.{fits_whole, sizes_pass, guard_refused, guard_bad, guard_good}
use Rattle.host.proofs.guard.Goals as goal

pub returns-in_err-sizes_fit : goal.returns-in_err-sizes_fit
returns-in_err-sizes_fit c =
    let p = err_from_is_err_and c.from_residual.result c.from_residual.ensures.1 in
    rw (p.1, p.2) (guard_refused _ _ _ c.sizes_fit.ensures _ c.in_err-sizes_fit.was)

pub held_fits-requires : goal.held_fits-requires
held_fits-requires c = fits_whole _ _ (sizes_pass _ _ _ _ c.sizes_fit.ensures c.in_ok-sizes_fit.was).1

pub returns-then-not-held_fits : goal.returns-then-not-held_fits
returns-then-not-held_fits c = guard_bad _ _ _ c.sizes_fit.ensures c.in_ok-sizes_fit.was _ (c.held_fits.ensures _) c.if-not-held_fits.true

pub returns : goal.returns
returns c = guard_good _ _ _ c.sizes_fit.ensures c.in_ok-sizes_fit.was _ (c.held_fits.ensures _) c.if-not-held_fits.false
