-- Each row's columns come to it by computing.
use mathlib.Core.Path.{◌≡◌, refl}
use mathlib.Core.Bool.{Bool, true, false}
use Rattle.cells.specs.Cells.{either}
use Rattle.claim_box.proofs.Opened.{command}
use Rattle.claim_box.specs.Writes.{one_of, follows, WritesNeed}

-- the last of some codes
last : (b : Bool) → either b false ≡ b
last true = refl
last false = refl

pub writes : WritesNeed
unfolding command one_of follows
writes = record {
  home = record { act = refl; licence = λ o. refl; mask = λ m p. refl };
  r0 = record { act = refl; licence = λ o. simp (last) refl; mask = λ m p. refl };
  count_key_data = record { act = refl; licence = λ o. simp (last) refl; mask = λ m p. refl };
  body = record { act = refl; licence = λ o. simp (last) refl; mask = λ m p. refl };
  key_and_body = record { act = refl; licence = λ o. simp (last) refl; mask = λ m p. refl };
}
