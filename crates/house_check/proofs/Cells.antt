-- Cells of an area: their bytes into the register one after another, what is clean, and the law on cells.
use mathlib.Core.Path.{◌≡◌, refl, sym, ap, ap₂, ◌∙◌, subst}
use mathlib.Core.Bool.{Bool, true, false}
use mathlib.Core.List.{List, [], ◌∷◌, ◌++◌}
use Prim.Native.Nat.{ℕ, zero, suc, ◌+◌, ◌*◌, ◌/◌, ◌%◌, ◌<◌}
use native.Mathlib.Omega.{arith}
use lib.Dec.{eqb, lit<}
use native.Mathlib.Decide.{ℕ_discrete}
use borrow.Author.Tests.{eq-eqb, ne_eqb}
use lib.ListN.{length, take, get_or, length-append, length-map}
use lib.Seq.{take-append_seam, get_or-append_seam, get_or-append-add}
use Rattle.std.specs.List.{fold}
use Rattle.cells.specs.Cells.{both, cell_of, bytes_of, cells_of, all_bytes}
use Rattle.cells.proofs.Laws.{length-bytes_of, get_or-bytes_of}
use Rattle.cells.proofs.Marks.{both_never}
use Rattle.cells.proofs.Numbers.{Bytes}
use Rattle.house_check.specs.Check.{feed, byte_bits, bits, check, CheckedBytes, agrees, good_cells, sixteen, with_check, cells_with_check, Burst, window}
use Rattle.house_check.proofs.Window.{feed_lt}
use Rattle.house_check.proofs.Bits.{bits_Bits}
use Rattle.house_check.proofs.Remainder.{agrees-zero, zero-agrees}
use Rattle.house_check.proofs.Burst.{burst}

eight : {a b c d e f g h a' b' c' d' e' f' g' h' : ℕ} {t : List ℕ} → a ≡ a' → b ≡ b' → c ≡ c' → d ≡ d' → e ≡ e' → f ≡ f' → g ≡ g' → h ≡ h'
    → a ∷ b ∷ c ∷ d ∷ e ∷ f ∷ g ∷ h ∷ t ≡ a' ∷ b' ∷ c' ∷ d' ∷ e' ∷ f' ∷ g' ∷ h' ∷ t
eight {t} p q r s u v w x = λ i. p i ∷ q i ∷ r i ∷ s i ∷ u i ∷ v i ∷ w i ∷ x i ∷ t

-- only the low byte is read
pub low_bits : (c : ℕ) (t : List ℕ) → byte_bits (c % 256) t ≡ byte_bits c t
unfolding byte_bits
low_bits c t =
    eight (omega arith) (omega arith) (omega arith) (omega arith) (omega arith) (omega arith) (omega arith) (omega arith)

-- cells one after another into the register
pub fed : (t : List ℕ) (r : ℕ) → fold (λ r c. feed r (byte_bits c [])) r t ≡ feed r (bits (bytes_of t))
unfolding feed byte_bits bits bytes_of
fed [] r = refl
fed (c ∷ t) r = fed t (feed r (byte_bits c [])) ∙ ap (λ (x : ℕ). feed x (bits (bytes_of t))) (ap (feed r) (sym (low_bits c [])))

-- ---- an area's cells

-- the bytes of cells are bytes
pub bytes_Bytes : (t : List ℕ) → Bytes (bytes_of t)
bytes_Bytes t i = subst (λ (x : ℕ). x < 256) (sym (get_or-bytes_of t i)) (omega arith)

-- n + 2 cells are an area
pub cells_area : (n : ℕ) (t : List ℕ) → length t ≡ n + 2 → CheckedBytes n (bytes_of t)
cells_area n t e = record {
  long = length-bytes_of t ∙ e;
  bytes = bytes_Bytes t;
}

-- the check of an area agrees exactly where the whole leaves 0
agrees_leaves : (n : ℕ) (a : List ℕ) → CheckedBytes n a → eqb (check a) 0 ≡ agrees n a
unfolding check
agrees_leaves n a A = go (agrees n a) refl (ℕ_discrete (check a) 0)
  where
    go : (b : Bool) → agrees n a ≡ b → Dec (check a ≡ 0) → eqb (check a) 0 ≡ agrees n a
    go b e (yes z) = eq-eqb (check a) 0 z ∙ sym (zero-agrees n a A z)
    go true e (no z) = absurd (z (agrees-zero n a A e))
    go false e (no z) = ne_eqb (check a) 0 z ∙ sym e

pub clean_good : (n : ℕ) (t : List ℕ) → length t ≡ n + 2 → both (all_bytes t) (eqb (check (bytes_of t)) 0) ≡ good_cells n t
unfolding good_cells
clean_good n t e =
    ap (both (all_bytes t)) (agrees_leaves n (bytes_of t) (cells_area n t e))
    ∙ ap (λ (b : Bool). both b (both (all_bytes t) (agrees n (bytes_of t)))) (sym (eq-eqb (length t) (n + 2) e))

-- fewer cells than a check has are no area
pub short_bad : (n : ℕ) (t : List ℕ) → length t < 2 → good_cells n t ≡ false
unfolding good_cells
short_bad n t h =
    ap (λ (b : Bool). both b (both (all_bytes t) (agrees n (bytes_of t)))) (ne_eqb (length t) (n + 2) (λ e. omega arith))

-- the law of the check on cells: of two areas' cells whose bytes differ in a burst
pub burst_cells : (n s : ℕ) (t t' : List ℕ) → length t ≡ n + 2 → length t' ≡ n + 2 → Burst window s (bytes_of t) (bytes_of t')
    → agrees n (bytes_of t) ≡ true → good_cells n t' ≡ false
unfolding good_cells
burst_cells n s t t' e e' B q =
    ap (λ (b : Bool). both (eqb (length t') (n + 2)) (both (all_bytes t') b))
    (burst n s (bytes_of t) (bytes_of t') (cells_area n t e) (cells_area n t' e') B q)
    ∙ ap (both (eqb (length t') (n + 2))) (both_never (all_bytes t')) ∙ both_never (eqb (length t') (n + 2))

-- ---- what is laid is good

pub cells_bytes : (v : List ℕ) → Bytes v → bytes_of (cells_of v) ≡ v
unfolding bytes_of cells_of
cells_bytes [] h = refl
cells_bytes (b ∷ v) h = let x : b < 256 = h 0 in ap₂ ◌∷◌ {x = (256 + b) % 256} {y = b} (omega arith) (cells_bytes v (λ i. h (suc i)))

cells_all : (v : List ℕ) → Bytes v → all_bytes (cells_of v) ≡ true
unfolding all_bytes cells_of
cells_all [] h = refl
cells_all (b ∷ v) h =
    let x : b < 256 = h 0 in
    ap (λ (t : Bool). both t (all_bytes (cells_of v))) (eq-eqb ((256 + b) / 256) 1 (omega arith)) ∙ cells_all v (λ i. h (suc i))

pub check_lt : (v : List ℕ) → check v < 65536
unfolding check
check_lt v = feed_lt (bits v) 0 (lit< tt) (bits_Bits v)

append-bytes : (v w : List ℕ) → Bytes v → Bytes w → Bytes (v ++ w)
append-bytes [] w h k i = k i
append-bytes (b ∷ v) w h k zero = h 0
append-bytes (b ∷ v) w h k (suc i) = append-bytes v w (λ j. h (suc j)) k i

check-bytes : (v : List ℕ) → Bytes (sixteen (check v))
check-bytes v zero = omega (arith, check_lt v)
check-bytes v (suc zero) = omega arith
check-bytes v (suc (suc i)) = omega arith

-- the check of bytes with their check agrees
pub checked_agrees : (v : List ℕ) → agrees (length v) (with_check v) ≡ true
unfolding agrees with_check
checked_agrees v =
    eq-eqb (check (take (length v) (v ++ (sixteen (check v))))) (get_or (v ++ (sixteen (check v))) (length v) 0 * 256 + get_or (v ++ (sixteen (check v))) (length v + 1) 0)
    (rw (take-append_seam, get_or-append_seam, get_or-append-add) (omega arith))

pub length_laid : (v : List ℕ) → length (cells_with_check v) ≡ length v + 2
unfolding cells_with_check with_check cells_of
length_laid v = length-map (v ++ (sixteen (check v))) cell_of ∙ length-append v (sixteen (check v))

-- the bytes of what is laid
pub laid_bytes : (v : List ℕ) → Bytes v → bytes_of (cells_with_check v) ≡ with_check v
unfolding cells_with_check with_check
laid_bytes v h = cells_bytes (v ++ sixteen (check v)) (append-bytes v (sixteen (check v)) h (check-bytes v))

-- what is laid is a good area
pub laid_good : (v : List ℕ) → Bytes v → good_cells (length v) (cells_with_check v) ≡ true
unfolding good_cells cells_with_check with_check
laid_good v h =
    let w : List ℕ = v ++ (sixteen (check v)) in
    let k : Bytes w = append-bytes v (sixteen (check v)) h (check-bytes v) in
    ap₂ both (eq-eqb (length (cells_of w)) (length v + 2) (length_laid v))
    (ap₂ both (cells_all w k) (ap (agrees (length v)) (cells_bytes w k) ∙ checked_agrees v))
