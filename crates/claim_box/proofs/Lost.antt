-- A write that does not fit is refused and changes nothing: each side computes.
use mathlib.Core.Path.{refl}
use Rattle.claim_box.specs.Figures.{id_two}
use Rattle.claim_box.specs.Lost.{far, Lost}
use Rattle.claim_box.proofs.Opened.{box}

pub lost : Lost
unfolding box id_two far
lost = record {
  below = refl;
  below_refused = record { ended = refl; status = refl; sensed = refl; cells = refl };
  fits_written = refl;
  far_first = refl;
  far_refused = record { ended = refl; status = refl; sensed = refl; cells = refl };
}
