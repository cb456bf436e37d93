-- Two lists of bytes of one length, as unsigned numbers: the first byte that differs decides, as in the library's order of lists. That order is told by the
-- first pair that differs, or by the lengths where no pair does.
use Prim.Native.Nat.{ℕ, suc, ◌+◌, ◌*◌, ◌<◌, min}
use mathlib.Core.Path.{◌≡◌, refl, sym, ap, ap₂, ◌∙◌}
use mathlib.Core.List.{List, [], ◌∷◌, map}
use native.Mathlib.Omega.{arith}
use lib.ListN.{length, take, length-take, length-map, get_or-map}
use borrow.Author.Tests.{eq-eqb, ne_eqb, lt-ltb, le-ltb}
use Rattle.std.specs.Prelude.{Bool, not, eqb, Option, Some, None, MatchOption, option_map, find, zip}
use Rattle.std.specs.declared.cmp.Ordering.{Ordering}
use Rattle.std.specs.declared.cmp.Ordering.TheVariants.{Less, Equal, Greater}
use Rattle.std.specs.Ordering.{nat_cmp}
use Rattle.std.specs.Cmp.Lexicographic.{slice_cmp}
use Rattle.std.proofs.lemmas.Cmp.{ranked, by_ranked}
use Rattle.std.proofs.lemmas.List.{take_min}
use Rattle.cells.specs.Cells.{number_from, number, part, byte_of, bytes_of}
use Rattle.cells.proofs.Numbers.{Bytes, number_less, part_bytes}
use Rattle.compare.specs.Compare.{compared, compared_bytes}

pub compared_less : (x y : ℕ) → x < y → compared x y ≡ Less
unfolding compared
compared_less x y h = rw (ne_eqb x y (λ e. omega arith), le-ltb y x (omega arith))

pub compared_more : (x y : ℕ) → y < x → compared x y ≡ Greater
unfolding compared
compared_more x y h = rw (ne_eqb x y (λ e. omega arith), lt-ltb y x h)

pub compared_same : (x : ℕ) → compared x x ≡ Equal
unfolding compared
compared_same x = rw (eq-eqb x x refl)

-- what the bytes before came to is the same on both sides
pub compared_lists : (n : ℕ) (x y : List ℕ) → length x ≡ length y → Bytes x → Bytes y
    → compared (number_from n x) (number_from n y) ≡ slice_cmp nat_cmp x y
unfolding number_from
compared_lists n [] [] l bx by = compared_same n
compared_lists n [] (c ∷ y) l bx by = absurd (omega arith)
compared_lists n (b ∷ x) [] l bx by = absurd (omega arith)
compared_lists n (b ∷ x) (c ∷ y) l bx by =
    by_ranked _ _ _ (nat_cmp b c) (ranked b c (nat_cmp b c) refl)
    (λ e h. rw e (compared_less _ _ (number_less _ _ x y (omega arith) (λ i. bx (suc i)) (omega arith))))
    (λ e h. rw (e, h) (compared_lists (n * 256 + c) x y (omega arith) (λ i. bx (suc i)) (λ i. by (suc i))))
    (λ e h. rw e (compared_more _ _ (number_less _ _ y x (omega arith) (λ i. by (suc i)) (omega arith))))

-- cut to one length
pub compared_cut : (f v : List ℕ) (m : ℕ) (r : Ordering) → r ≡ slice_cmp nat_cmp (map byte_of (take m f)) (take m v)
    → m ≡ min (length f) (length v) → Bytes v → r ≡ compared_bytes f v
unfolding compared_bytes bytes_of part
compared_cut f v m r p q b =
    let on_track : take m f ≡ take (length v) f = ap (λ (k : ℕ). take k f) {x = m} {y = min (length v) (length f)} (omega arith) ∙ take_min (length v) f in
    let sent : take m v ≡ take (length f) v = ap (λ (k : ℕ). take k v) q ∙ take_min (length f) v in
    p
    ∙ sym (compared_lists 0 (map byte_of (take m f)) (take m v)
    (omega (arith, length-map (take m f) byte_of, length-take m f, length-take m v))
    (λ i. rw (get_or-map byte_of (take m f) i 0) (omega arith)) (part_bytes v 0 m b))
    ∙ ap₂ (λ (x y : List ℕ). compared (number (map byte_of x)) (number y)) on_track sent

-- ---- the first pair of a cell and a byte that differs

abbrev pub differ : ℕ × ℕ → Bool
differ p = not (eqb (byte_of p.0) p.1)

-- what a pair tells, and what it tells that none differs
unfoldable pub told : List ℕ → List ℕ → Option (ℕ × ℕ) → Ordering
told f v None = nat_cmp (length f) (length v)
told f v (Some p) = nat_cmp (byte_of p.0) p.1

told_next : (x y : ℕ) (f v : List ℕ) (r : Option (ℕ × ℕ)) → told (x ∷ f) (y ∷ v) r ≡ told f v r
unfolding told
told_next x y f v None = grind arith
told_next x y f v (Some p) = refl

pub told_first : (f v : List ℕ) → told f v (find differ (zip f v)) ≡ slice_cmp nat_cmp (map byte_of f) v
unfolding told
told_first [] [] = grind arith
told_first [] (y ∷ v) = grind arith
told_first (x ∷ f) [] = grind arith
told_first (x ∷ f) (y ∷ v) =
    by_ranked _ _ _ (nat_cmp (byte_of x) y) (ranked (byte_of x) y (nat_cmp (byte_of x) y) refl)
    (λ e h. rw (e, ne_eqb (byte_of x) y (λ i. omega arith)) e)
    (λ e h. rw (e, eq-eqb (byte_of x) y h) (told_next x y f v (find differ (zip f v)) ∙ told_first f v))
    (λ e h. rw (e, ne_eqb (byte_of x) y (λ i. omega arith)) e)

-- what `map_or` makes of the pair that is found, or of none
pub told_by : {A : Type 0} (w : A → ℕ × ℕ) (o : Option A) (r : Ordering) (f v : List ℕ) {P : Type 0} {Q : A → Type 0} → MatchOption o P Q
    → (P → r ≡ nat_cmp (length f) (length v)) → ((x : A) → Q x → r ≡ nat_cmp (byte_of (w x).0) (w x).1) → r ≡ told f v (option_map w o)
unfolding told
told_by w None r f v m none some = none m
told_by w (Some x) r f v m none some = some x m
