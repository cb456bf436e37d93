-- The 8 bytes of a count that move are the 8 that were sent. Why: a number of two bytes is taken apart as it was put together.
use Prim.Native.Nat.{ℕ, ◌+◌, ◌*◌, ◌/◌, ◌%◌, ◌<◌}
use mathlib.Core.Path.{◌≡◌, refl, sym, ◌∙◌}
use mathlib.Core.List.{List, [], ◌∷◌}
use native.Mathlib.Omega.{arith}
use lib.ListN.{length, get_or}
use Rattle.cells.specs.Cells.{padded}
use Rattle.cells.proofs.Laws.{length-padded}
use Rattle.cells.proofs.Numbers.{Bytes}
use Rattle.areas.specs.Areas.{counts_of}
use Rattle.recording.proofs.Laws.{padded-bytes}
use Rattle.format.specs.Format.{new_counts}
use Rattle.command.specs.Command.{id_of, count_moved}

eight : (p : List ℕ) → length p ≡ 8
    → p ≡ get_or p 0 0 ∷ get_or p 1 0 ∷ get_or p 2 0 ∷ get_or p 3 0 ∷ get_or p 4 0 ∷ get_or p 5 0 ∷ get_or p 6 0 ∷ get_or p 7 0 ∷ []
eight [] l = absurd (omega arith)
eight (a ∷ []) l = absurd (omega arith)
eight (a ∷ b ∷ []) l = absurd (omega arith)
eight (a ∷ b ∷ c ∷ []) l = absurd (omega arith)
eight (a ∷ b ∷ c ∷ d ∷ []) l = absurd (omega arith)
eight (a ∷ b ∷ c ∷ d ∷ e ∷ []) l = absurd (omega arith)
eight (a ∷ b ∷ c ∷ d ∷ e ∷ f ∷ []) l = absurd (omega arith)
eight (a ∷ b ∷ c ∷ d ∷ e ∷ f ∷ g ∷ []) l = absurd (omega arith)
eight (a ∷ b ∷ c ∷ d ∷ e ∷ f ∷ g ∷ h ∷ []) l = refl
eight (a ∷ b ∷ c ∷ d ∷ e ∷ f ∷ g ∷ h ∷ k ∷ p) l = absurd (omega arith)

high : (x y : ℕ) → y < 256 → (x * 256 + y) / 256 ≡ x
high x y h = omega arith

low : (x y : ℕ) → y < 256 → (x * 256 + y) % 256 ≡ y
low x y h = omega arith

moved : (flag : ℕ) (p : List ℕ) → length p ≡ 8 → Bytes p → count_moved (counts_of (flag ∷ p)) ≡ p
unfolding count_moved id_of counts_of
moved flag p l b =
    (λ i.
    high (get_or p 0 0) (get_or p 1 0) (b 1) i
    ∷ low (get_or p 0 0) (get_or p 1 0) (b 1) i
    ∷ high (get_or p 2 0) (get_or p 3 0) (b 3) i
    ∷ low (get_or p 2 0) (get_or p 3 0) (b 3) i
    ∷ get_or p 4 0
    ∷ get_or p 5 0
    ∷ high (get_or p 6 0) (get_or p 7 0) (b 7) i
    ∷ low (get_or p 6 0) (get_or p 7 0) (b 7) i
    ∷ [])
    ∙ sym (eight p l)

pub new_moved : (flag : ℕ) (v : List ℕ) → Bytes v → count_moved (new_counts flag v) ≡ padded 8 v
unfolding new_counts
new_moved flag v b = moved flag (padded 8 v) (length-padded 8 v) (padded-bytes 8 v b)
