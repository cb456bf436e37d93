-- Laws of room left: it is 4,096 less first and needed cells together, and is not negative exactly where the record ends on the track.
use Prim.Native.Nat.{ℕ, zero, suc, ◌+◌, ◌-◌, ◌<◌, ◌≤◌}
use mathlib.Core.Path.{◌≡◌, refl, sym, ap, ◌∙◌}
use mathlib.Core.Bool.{Bool, true, false}
use native.Mathlib.Nat.{add-zero, sub-zero}
use native.Mathlib.Omega.{arith}
use lib.IntN.{ℤ, pos, sub_ℕ, ◌+ℤ◌, ◌-ℤ◌, neg_ℤ, +ℤ_assoc, neg_ℤ-+ℤ, pos-+ℤ-pos}
use lib.Signed.{le_z}
use lib.Dec.{ltb, leb}
use borrow.Author.Tests.{ltb-true, ltb-false, le-ltb, le-leb, lt-leb, leb-true}
use Rattle.cells.specs.Cells.{track_cells}
use Rattle.room.specs.Room.{room_left, fits}

minus : (a b : ℕ) → pos a -ℤ pos b ≡ sub_ℕ a b
minus a zero = rw (le-ltb a 0 (omega arith), add-zero, sub-zero)
minus a (suc b) = refl

-- two numbers taken away one after the other
twice : (a : ℤ) (b c : ℕ) → a -ℤ pos b -ℤ pos c ≡ a -ℤ pos (b + c)
twice a b c =
    +ℤ_assoc a (neg_ℤ (pos b)) (neg_ℤ (pos c)) ∙ ap (λ (z : ℤ). a +ℤ z) (sym (neg_ℤ-+ℤ (pos b) (pos c))) ∙ ap (λ (z : ℤ). a -ℤ z) (pos-+ℤ-pos b c)

pub room_is : (first needs : ℕ) → room_left first needs ≡ sub_ℕ track_cells (first + needs)
unfolding room_left
room_is first needs = twice (pos track_cells) first needs ∙ minus track_cells (first + needs)

pub sub_sign : (a b : ℕ) → le_z (pos 0) (sub_ℕ a b) ≡ leb b a
sub_sign a b = go (ltb a b) refl
  where
    go : (t : Bool) → ltb a b ≡ t → le_z (pos 0) (sub_ℕ a b) ≡ leb b a
    go true e = rw (e, lt-leb b a (ltb-true a b e))
    go false e = rw (e, le-leb b a (ltb-false a b e), le-leb 0 (a - b) (omega arith))

-- a record fits exactly where it ends on the track
pub fits_is : (first needs : ℕ) → fits first needs ≡ leb (first + needs) track_cells
unfolding fits
fits_is first needs = ap (le_z (pos 0)) (room_is first needs) ∙ sub_sign track_cells (first + needs)

-- where a record would end past the track there is no room, however far past
pub no_room : (first needs : ℕ) → track_cells < first + needs → fits first needs ≡ false
no_room first needs h = fits_is first needs ∙ lt-leb (first + needs) track_cells h

-- and what fits ends on the track
pub fits_ends : (first needs : ℕ) → fits first needs ≡ true → first + needs ≤ track_cells
fits_ends first needs e = leb-true (first + needs) track_cells (sym (fits_is first needs) ∙ e)
