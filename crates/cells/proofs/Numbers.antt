-- Laws of bytes, and of bytes as one unsigned number: of two of one length, the first byte that differs tells which is less.
use Prim.Native.Nat.{ℕ, suc, ◌+◌, ◌*◌, ◌<◌, ◌≤◌}
use mathlib.Core.Path.{◌≡◌, sym, subst}
use mathlib.Core.List.{List, [], ◌∷◌}
use native.Mathlib.Omega.{arith}
use native.Mathlib.Decide.{dec_lt}
use lib.ListN.{length, get_or, drop, length-take, get_or-eq_default}
use Rattle.cells.specs.Cells.{part, number_from}
use Rattle.cells.proofs.Laws.{get_or-part}

-- each is a byte
abbrev pub Bytes : List ℕ → Type 0
Bytes v = (i : ℕ) → get_or v i 0 < 256

-- what is less stays less, whatever bytes follow
pub number_less : (p q : ℕ) (u v : List ℕ) → length u ≡ length v → Bytes u → p < q → number_from p u < number_from q v
unfolding number_from
number_less p q [] [] l h k = k
number_less p q [] (c ∷ v) l h k = absurd (omega arith)
number_less p q (b ∷ u) [] l h k = absurd (omega arith)
number_less p q (b ∷ u) (c ∷ v) l h k =
    let x : b < 256 = h 0 in
    number_less (p * 256 + b) (q * 256 + c) u v (omega arith) (λ i. h (suc i)) (omega arith)

-- bytes of a part, wherever it ends
pub part_bytes : (v : List ℕ) (at n : ℕ) → Bytes v → Bytes (part v at n)
unfolding part
part_bytes v at n b i = go (dec_lt i n)
  where
    short : length (part v at n) ≤ n
    short = omega (arith, length-take n (drop at v))

    go : Dec (i < n) → get_or (part v at n) i 0 < 256
    go (yes h) = subst (λ (z : ℕ). z < 256) (sym (get_or-part v at n i h)) (b (at + i))
    go (no h) = subst (λ (z : ℕ). z < 256) (sym (get_or-eq_default (part v at n) 0 {n = i} (omega (arith, short)))) (omega arith)
