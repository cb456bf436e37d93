-- Laws of lists and cells that every crate above cites.
use Prim.Native.Nat.{ℕ, zero, suc, ◌+◌, ◌-◌, ◌<◌, ◌≤◌, min}
use mathlib.Core.Path.{◌≡◌, refl, sym, ap, ap₂, ◌∙◌}
use mathlib.Core.List.{List, [], ◌∷◌, ◌++◌, append-nil, append_assoc}
use native.Mathlib.Omega.{arith}
use native.Mathlib.Numerals.{add-one}
use native.Mathlib.Nat.{add-zero}
use native.Mathlib.Decide.{dec_le}
use lib.ListN.{length, get_or, take, drop, set, length-append, length-take, length-drop, length-map, take-append-drop, get_or-map, get_or-append}
use lib.Seq.{length-take-le, take-suc, take-take, take_all, take-append_seam, take_at, drop_at, drop-append-add, drop-drop, get_or-append-add, drop-cons, set_at, append_snoc, get_or-take, get_or-drop}
use borrow.Rule.Slice.PartMut.{put_mid}
use Rattle.cells.specs.Cells.{part, overlay, padded, byte_of, bytes_of}

-- ---- bytes of cells

pub length-bytes_of : (t : List ℕ) → length (bytes_of t) ≡ length t
unfolding bytes_of
length-bytes_of t = length-map t byte_of

pub get_or-bytes_of : (t : List ℕ) (i : ℕ) → get_or (bytes_of t) i 0 ≡ byte_of (get_or t i 0)
unfolding bytes_of
get_or-bytes_of t i = get_or-map byte_of t i 0

pub take-bytes_of : (n : ℕ) (t : List ℕ) → take n (bytes_of t) ≡ bytes_of (take n t)
unfolding bytes_of
take-bytes_of zero t = refl
take-bytes_of (suc n) [] = refl
take-bytes_of (suc n) (x ∷ t) = ap (λ (v : List ℕ). byte_of x ∷ v) (take-bytes_of n t)

pub drop-bytes_of : (n : ℕ) (t : List ℕ) → drop n (bytes_of t) ≡ bytes_of (drop n t)
unfolding bytes_of
drop-bytes_of zero t = refl
drop-bytes_of (suc n) [] = refl
drop-bytes_of (suc n) (x ∷ t) = drop-bytes_of n t

-- ---- a part of a list

module _ (l : List ℕ) (at : ℕ) where
  pub length_part : (n : ℕ) → at + n ≤ length l → length (part l at n) ≡ n
  unfolding part
  length_part n h = simp (length-take, length-drop) (omega arith)

  pub part-cons : (n : ℕ) → at < length l → part l at (suc n) ≡ get_or l at 0 ∷ part l (suc at) n
  unfolding part
  part-cons n h = ap (take (suc n)) (drop-cons l at 0 h)

  pub get_or-part : (n i : ℕ) → i < n → get_or (part l at n) i 0 ≡ get_or l (at + i) 0
  unfolding part
  get_or-part n i h = get_or-take n (drop at l) i 0 h ∙ get_or-drop at l i 0

-- ---- a list with another laid over it

pub length-overlay : (l : List ℕ) (at : ℕ) (v : List ℕ) → at + length v ≤ length l → length (overlay l at v) ≡ length l
unfolding overlay
length-overlay l at v h = simp (length-append, length-take, length-drop) (omega arith)

pub overlay_none : (l : List ℕ) (at : ℕ) → overlay l at [] ≡ l
unfolding overlay
overlay_none l at = simp (append-nil, add-zero, take-append-drop)

-- a store at the end of what is laid over
pub overlay-snoc : (l : List ℕ) (at : ℕ) (v : List ℕ) (x : ℕ) → at + length v < length l
    → set (overlay l at v) (at + length v) x ≡ overlay l at (v ++ (x ∷ []))
unfolding overlay
overlay-snoc l at v x h =
    let long : length (take at l ++ v) ≡ at + length v = simp (length-append, length-take) (omega arith) in
    let more : at + length (v ++ (x ∷ [])) ≡ suc (at + length v) = simp length-append (omega arith) in
    rw (drop-cons l (at + length v) 0 h, set_at (take at l ++ v) _ _ x (at + length v) long, more, ← append_assoc (take at l) v (x ∷ []), append_snoc)

-- one more of a list's elements, stored behind those that are laid over
pub put_more : (l : List ℕ) (at : ℕ) (v : List ℕ) (i : ℕ) → at + i < length l → i < length v
    → set (overlay l at (take i v)) (at + i) (get_or v i 0) ≡ overlay l at (take (i + 1) v)
put_more l at v i h k =
    let n : length (take i v) ≡ i = length-take-le i v (omega arith) in
    ap (λ (j : ℕ). set (overlay l at (take i v)) (at + j) (get_or v i 0)) (sym n)
    ∙ overlay-snoc l at (take i v) (get_or v i 0) (omega arith)
    ∙ ap (overlay l at) (sym (ap (λ (j : ℕ). take j v) (add-one i) ∙ take-suc v i 0 k))

-- what is laid over, taken out again
pub part-overlay : (l : List ℕ) (at : ℕ) (v : List ℕ) → at + length v ≤ length l → part (overlay l at v) at (length v) ≡ v
unfolding part overlay
part-overlay l at v h =
    let e : length (take at l) ≡ at = length-take-le at l (omega arith) in
    ap (λ (x : List ℕ). take (length v) (drop at x)) (append_assoc (take at l) v (drop (at + length v) l))
    ∙ ap (take (length v)) (drop_at (take at l) (v ++ drop (at + length v) l) at e)
    ∙ take-append_seam v (drop (at + length v) l)

-- one laid over after the other is both laid over at once
pub overlay-append : (l : List ℕ) (at : ℕ) (v w : List ℕ) → at + length v + length w ≤ length l
    → overlay (overlay l at v) (at + length v) w ≡ overlay l at (v ++ w)
unfolding overlay
overlay-append l at v w h =
    let long : length (take at l ++ v) ≡ at + length v = simp (length-append, length-take) (omega arith) in
    let front : take (at + length v) (take at l ++ v ++ drop (at + length v) l) ≡ take at l ++ v =
    take_at (take at l ++ v) (drop (at + length v) l) (at + length v) long in
    let back : drop (at + length v + length w) (take at l ++ v ++ drop (at + length v) l) ≡ drop (at + length (v ++ w)) l =
    ap (λ (k : ℕ). drop (k + length w) (take at l ++ v ++ drop (at + length v) l)) (sym long)
    ∙ drop-append-add (take at l ++ v) (drop (at + length v) l) (length w)
    ∙ drop-drop (length w) (at + length v) l
    ∙ ap (λ (k : ℕ). drop k l) {x = at + length v + length w} {y = at + length (v ++ w)} (omega (arith, length-append v w)) in
    ap₂ (λ (x y : List ℕ). x ++ w ++ y) front back
    ∙ ap (λ (x : List ℕ). x ++ drop (at + length (v ++ w)) l) (append_assoc (take at l) v w)

-- so many elements of two lists: of the first, then of the second
pub take-append : (n : ℕ) (x y : List ℕ) → take n (x ++ y) ≡ take n x ++ take (n - length x) y
take-append zero [] y = refl
take-append zero (a ∷ x) y = let e : 0 - length (a ∷ x) ≡ 0 = omega arith in ap (λ (k : ℕ). take k y) (sym e)
take-append (suc n) [] y = let e : suc n ≡ suc n - length {A = ℕ} [] = omega arith in ap (λ (k : ℕ). take k y) e
take-append (suc n) (a ∷ x) y =
    let e : n - length x ≡ suc n - length (a ∷ x) = omega arith in
    ap (λ (l : List ℕ). a ∷ l) (take-append n x y) ∙ ap (λ (k : ℕ). a ∷ take n x ++ take k y) e

-- so many of so many
pub take_min : (m n : ℕ) (l : List ℕ) → take m (take n l) ≡ take (min m n) l
take_min m n l = go (dec_le m n)
  where
    go : Dec (m ≤ n) → take m (take n l) ≡ take (min m n) l
    go (yes h) = let e : m ≡ min m n = omega arith in take-take m n l h ∙ ap (λ (k : ℕ). take k l) e
    go (no h) = let e : n ≡ min m n = omega arith in take_all m (take n l) (omega (arith, length-take n l)) ∙ ap (λ (k : ℕ). take k l) e

-- .. laid over, one list after the other
pub overlay-two : (l : List ℕ) (at n m : ℕ) (x y : List ℕ) → at + n ≤ length l → m ≡ length (take n x)
    → overlay (overlay l at (take n x)) (at + m) (take (n - m) y) ≡ overlay l at (take n (x ++ y))
overlay-two l at n m x y h e =
    let short : n - m ≡ n - length x = omega (arith, length-take n x) in
    ap₂ (λ (k j : ℕ). overlay (overlay l at (take n x)) (at + k) (take j y)) e short
    ∙ overlay-append l at (take n x) (take (n - length x) y) (omega (arith, length-take n x, length-take (n - length x) y))
    ∙ ap (overlay l at) (sym (take-append n x y))

-- a part laid over where it was
pub overlay_same : (l : List ℕ) (at n : ℕ) → at + n ≤ length l → overlay l at (part l at n) ≡ l
unfolding overlay part
overlay_same l at n h =
    let long : length (take n (drop at l)) ≡ n = simp (length-take, length-drop) (omega arith) in
    ap (λ (k : ℕ). take at l ++ take n (drop at l) ++ drop (at + k) l) long
    ∙ ap (λ (x : List ℕ). take at l ++ take n (drop at l) ++ x) (sym (drop-drop n at l))
    ∙ append_assoc (take at l) (take n (drop at l)) (drop n (drop at l))
    ∙ ap (λ (x : List ℕ). take at l ++ x) (take-append-drop n (drop at l))
    ∙ take-append-drop at l

-- outside of what is laid over nothing changes
pub overlay_before : (l : List ℕ) (at : ℕ) (v : List ℕ) (i : ℕ) → at ≤ length l → i < at → get_or (overlay l at v) i 0 ≡ get_or l i 0
unfolding overlay
overlay_before l at v i k h =
    let e : length (take at l) ≡ at = length-take-le at l k in
    ap (λ (x : List ℕ). get_or x i 0) (append_assoc (take at l) v (drop (at + length v) l))
    ∙ get_or-append (take at l) (v ++ drop (at + length v) l) 0 i (omega arith) ∙ get_or-take at l i 0 h

pub overlay-behind : (l : List ℕ) (at : ℕ) (v : List ℕ) (i : ℕ) → at ≤ length l → at + length v ≤ i → get_or (overlay l at v) i 0 ≡ get_or l i 0
unfolding overlay
overlay-behind l at v i k h =
    let long : length (take at l ++ v) ≡ at + length v = simp (length-append, length-take) (omega arith) in
    let e : length (take at l ++ v) + (i - (at + length v)) ≡ i = omega arith in
    let f : at + length v + (i - (at + length v)) ≡ i = omega arith in
    ap (λ (j : ℕ). get_or (take at l ++ v ++ drop (at + length v) l) j 0) (sym e)
    ∙ get_or-append-add (take at l ++ v) (drop (at + length v) l) (i - (at + length v)) 0
    ∙ get_or-drop (at + length v) l (i - (at + length v)) 0 ∙ ap (λ (j : ℕ). get_or l j 0) f

-- one element stored
pub set-overlay : (l : List ℕ) (at x : ℕ) → at < length l → set l at x ≡ overlay l at (x ∷ [])
set-overlay l at x h =
    ap (λ (y : List ℕ). set y at x) (sym (overlay_none l at)) ∙ ap (λ (k : ℕ). set (overlay l at []) k x) (sym (add-zero at))
    ∙ overlay-snoc l at [] x (omega arith)

-- what a part that was lent holds now is laid over
pub put_mid-overlay : (l : List ℕ) (at n : ℕ) (v : List ℕ) → n ≡ length v → put_mid at n l v ≡ overlay l at v
unfolding overlay
put_mid-overlay l at n v e = rw (e, drop-drop, append_assoc)

-- ---- bytes with zeros for those that are missing

pub length-padded : (n : ℕ) (v : List ℕ) → length (padded n v) ≡ n
unfolding padded
length-padded zero v = refl
length-padded (suc n) [] = ap suc (length-padded n [])
length-padded (suc n) (b ∷ v) = ap suc (length-padded n v)

pub padded-snoc : (n : ℕ) (v : List ℕ) → padded (suc n) v ≡ padded n v ++ (get_or v n 0 ∷ [])
unfolding padded
padded-snoc zero [] = refl
padded-snoc zero (b ∷ v) = refl
padded-snoc (suc n) [] = ap (λ (x : List ℕ). 0 ∷ x) (padded-snoc n [])
padded-snoc (suc n) (b ∷ v) = ap (λ (x : List ℕ). b ∷ x) (padded-snoc n v)
