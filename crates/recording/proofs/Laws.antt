-- Laws of what is recorded: cells as bytes are recorded in them, zeros behind the bytes, the check behind them, gaps to the end.
use Prim.Native.Nat.{ℕ, zero, suc, ◌+◌, ◌-◌, ◌/◌, ◌%◌, ◌<◌, min}
use mathlib.Core.Path.{◌≡◌, refl, sym, ap, ap₂, ◌∙◌}
use mathlib.Core.List.{List, [], ◌∷◌, ◌++◌, map, map-append, append-nil, append_assoc}
use native.Mathlib.Numerals.{add-one, unary_clauses}
use native.Mathlib.Omega.{arith}
use lib.ListN.{length, get_or, take, drop, set, replicate, length-map, length-append, length-drop, length-take, drop_of_length-le}
use lib.Seq.{take_all, drop-drop, take-append_seam}
use borrow.Rule.Slice.PartMut.{put_mid}
use Rattle.std.proofs.lemmas.List.{take_min}
use Rattle.std.specs.Int.{w16, to_be_bytes}
use Rattle.cells.specs.Cells.{overlay, padded, cell_of, bytes_of, cells_of}
use Rattle.cells.proofs.Laws.{length-padded}
use Rattle.cells.proofs.Numbers.{Bytes}
use Rattle.house_check.specs.Check.{check, sixteen, with_check, cells_with_check}
use Rattle.house_check.proofs.Cells.{cells_bytes}
use Rattle.recording.specs.Recording.{area_written, count_written, wiped}

length-cells_of : (v : List ℕ) → length (cells_of v) ≡ length v
unfolding cells_of
length-cells_of v = length-map v cell_of

-- ---- one after another: of the cells or bytes d, one more is what f makes of v's

one_more : (f : ℕ → ℕ) (d v : List ℕ) (j : ℕ) → j < length v → length v ≡ length d
    → set (take j (map f v) ++ drop j d) j (f (get_or v j 0)) ≡ take (suc j) (map f v) ++ drop (suc j) d
one_more f d [] j h l = absurd (omega arith)
one_more f [] (b ∷ v) j h l = absurd (omega arith)
one_more f (a ∷ d) (b ∷ v) zero h l = refl
one_more f (a ∷ d) (b ∷ v) (suc j) h l = ap (λ (t : List ℕ). f b ∷ t) (one_more f d v j (omega arith) (omega arith))

pub map_more : (f : ℕ → ℕ) (d v : List ℕ) (j x : ℕ) → x ≡ f (get_or v j 0) → j < length v → length v ≡ length d
    → set (take j (map f v) ++ drop j d) j x ≡ take (j + 1) (map f v) ++ drop (j + 1) d
map_more f d v j x e h l = rw (e, add-one j) (one_more f d v j h l)

pub map_all : (f : ℕ → ℕ) (d v : List ℕ) (j : ℕ) → j ≡ length d → length v ≡ length d → take j (map f v) ++ drop j d ≡ map f v
map_all f d v j e l =
    rw (take_all j (map f v) (omega (arith, length-map v f)), drop_of_length-le d {i = j} (omega arith)) (append-nil (map f v))

-- ---- bytes recorded

pub record_more : (d v : List ℕ) (j x : ℕ) → x ≡ cell_of (get_or v j 0) → j < length v → length v ≡ length d
    → set (take j (cells_of v) ++ drop j d) j x ≡ take (j + 1) (cells_of v) ++ drop (j + 1) d
unfolding cells_of
record_more = map_more cell_of

pub record_all : (d v : List ℕ) (j : ℕ) → j ≡ length d → length v ≡ length d → take j (cells_of v) ++ drop j d ≡ cells_of v
unfolding cells_of
record_all = map_all cell_of

-- the bytes that are there, then zeros
zeros : (n : ℕ) → replicate n 256 ≡ cells_of (padded n [])
unfolding cells_of padded
zeros zero = refl
zeros (suc n) = ap (λ (t : List ℕ). 256 ∷ t) (zeros n)

record_padded : (n m : ℕ) (v : List ℕ) → m ≡ min n (length v) → cells_of (take m v) ++ replicate (n - m) 256 ≡ cells_of (padded n v)
unfolding cells_of padded
record_padded zero zero v e = refl
record_padded zero (suc m) v e = absurd (omega arith)
record_padded (suc n) zero [] e = simp unary_clauses (zeros (suc n))
record_padded (suc n) zero (b ∷ v) e = absurd (omega arith)
record_padded (suc n) (suc m) [] e = absurd (omega arith)
record_padded (suc n) (suc m) (b ∷ v) e = simp unary_clauses (ap (λ (t : List ℕ). cell_of b ∷ t) (record_padded n m v (omega arith)))

pub record_both : (n m : ℕ) (v x y : List ℕ) → x ≡ cells_of (take m v) → m ≡ min n (length v) → y ≡ replicate (n - m) 256
    → x ++ y ≡ cells_of (padded n v)
record_both n m v x y p e q = ap₂ (λ (a b : List ℕ). a ++ b) p q ∙ record_padded n m v e

-- ---- the check

pub check_put : (l : List ℕ) (n s x a b : ℕ) (v : List ℕ) → length l ≡ n + 2 → s ≡ x → s < 65536 → v ≡ to_be_bytes w16 s
    → a ≡ cell_of (get_or v 0 0) → b ≡ cell_of (get_or v 1 0) → set (set l n a) (n + 1) b ≡ take n l ++ cells_of (sixteen x)
unfolding cells_of
check_put l n s x a b v h e low p q r =
    let first : a ≡ 256 + s / 256 = q ∙ ap (λ (u : List ℕ). cell_of (get_or u 0 0)) p ∙ omega arith in
    let second : b ≡ 256 + s % 256 = r ∙ ap (λ (u : List ℕ). cell_of (get_or u 1 0)) p in
    rw (first, second, e, add-one n) (go l n h)
  where
    go : (l : List ℕ) (n : ℕ) → length l ≡ n + 2
        → set (set l n (256 + x / 256)) (suc n) (256 + x % 256) ≡ take n l ++ ((256 + x / 256) ∷ (256 + x % 256) ∷ [])
    go [] n h = absurd (omega arith)
    go (a ∷ []) n h = absurd (omega arith)
    go (a ∷ b ∷ []) zero h = refl
    go (a ∷ b ∷ c ∷ l) zero h = absurd (omega arith)
    go (a ∷ b ∷ l) (suc n) h = ap (λ (t : List ℕ). a ∷ t) (go (b ∷ l) n (omega arith))

-- bytes stay bytes
pub padded-bytes : (n : ℕ) (v : List ℕ) → Bytes v → Bytes (padded n v)
unfolding padded
padded-bytes zero v h i = omega arith
padded-bytes (suc n) [] h zero = omega arith
padded-bytes (suc n) [] h (suc i) = padded-bytes n [] h i
padded-bytes (suc n) (b ∷ v) h zero = h 0
padded-bytes (suc n) (b ∷ v) h (suc i) = padded-bytes n v (λ j. h (suc j)) i

-- ---- whole areas and gaps, put into the track

-- cells put in place of as many
pub put_over : (l : List ℕ) (at k : ℕ) (v : List ℕ) → k ≡ length v → put_mid at k l v ≡ overlay l at v
unfolding overlay
put_over l at k v e =
    ap (λ (x : List ℕ). take at l ++ (v ++ x)) (ap (λ (n : ℕ). drop n (drop at l)) e ∙ drop-drop (length v) at l)
    ∙ sym (append_assoc (take at l) v (drop (at + length v) l))

put_area : (t : List ℕ) (first k : ℕ) (w : List ℕ) → Bytes w → k ≡ length w + 2
    → put_mid first k t (cells_of w ++ cells_of (sixteen (check (bytes_of (cells_of w))))) ≡ overlay t first (cells_with_check w)
unfolding cells_with_check with_check cells_of
put_area t first k w b e =
    let x : List ℕ = sixteen (check (bytes_of (cells_of w))) in
    put_over t first k (cells_of w ++ cells_of x) (omega (arith, length-append (cells_of w) (cells_of x), length-cells_of w, length-cells_of x))
    ∙ ap (overlay t first) (ap (λ (y : List ℕ). cells_of w ++ cells_of (sixteen (check y))) (cells_bytes w b) ∙ sym (map-append cell_of w (sixteen (check w))))

-- an area b of bytes w and two cells more, and the same with the check in these
abbrev checked : List ℕ → List ℕ
checked b = let v : List ℕ = take (length b - 2) b in v ++ cells_of (sixteen (check (bytes_of v)))

put_checked : (t : List ℕ) (first k : ℕ) (w d b c : List ℕ) → Bytes w → k ≡ length w + 2 → length d ≡ 2 → b ≡ cells_of w ++ d → c ≡ checked b
    → put_mid first k t c ≡ overlay t first (cells_with_check w)
put_checked t first k w d b c h e l p q =
    let n : length (cells_of w ++ d) - 2 ≡ length (cells_of w) = omega (arith, length-append (cells_of w) d) in
    let seam : take (length b - 2) b ≡ cells_of w =
    ap (λ (x : List ℕ). take (length x - 2) x) p ∙ ap (λ (m : ℕ). take m (cells_of w ++ d)) n ∙ take-append_seam (cells_of w) d in
    ap (put_mid first k t) (q ∙ ap (λ (v : List ℕ). v ++ cells_of (sixteen (check (bytes_of v)))) seam) ∙ put_area t first k w h e

-- the flag, and the bytes sent behind it
flag_then : (flag : ℕ) (v : List ℕ) → flag < 256 → Bytes v → Bytes (flag ∷ padded 8 v)
flag_then flag v f h zero = f
flag_then flag v f h (suc i) = padded-bytes 8 v h i

flag_behind : (a r v : List ℕ) (flag x : ℕ) → length a ≡ 11 → x ≡ cell_of flag → r ≡ cells_of (padded (length (take 8 (drop 1 (set a 0 x)))) v)
    → (put_mid 1 8 (set a 0 x) r ≡ cells_of (flag ∷ padded 8 v) ++ drop 8 (drop 1 (set a 0 x))) × (length (drop 8 (drop 1 (set a 0 x))) ≡ 2)
unfolding cells_of
flag_behind [] r v flag x l e p = absurd (omega arith)
flag_behind (y ∷ a) r v flag x l e p =
    let n : length (take 8 a) ≡ 8 = omega (arith, length-take 8 a) in (
      ap₂ (λ (z : ℕ) (u : List ℕ). z ∷ (u ++ drop 8 a)) e (p ∙ ap (λ (m : ℕ). cells_of (padded m v)) n),
      omega (arith, length-drop 8 a),
    )

module _ (t : List ℕ) (first k : ℕ) (v : List ℕ) (h : Bytes v) (a r c : List ℕ) where
  pub area_laid : (n : ℕ) → length a ≡ n + 2 → k ≡ n + 2 → r ≡ cells_of (padded (length (take n a)) v) → c ≡ checked (r ++ drop n a)
      → put_mid first k t c ≡ area_written t first v n
  unfolding area_written
  area_laid n l e p =
      let m : length (take n a) ≡ n = omega (arith, length-take n a) in
      put_checked t first k (padded n v) (drop n a) _ c (padded-bytes n v h) (omega (arith, length-padded n v)) (omega (arith, length-drop n a))
      (ap (λ (x : List ℕ). x ++ drop n a) (p ∙ ap (λ (i : ℕ). cells_of (padded i v)) m))

  pub count_laid : (flag x : ℕ) → flag < 256 → length a ≡ 11 → k ≡ 11 → x ≡ cell_of flag
      → r ≡ cells_of (padded (length (take 8 (drop 1 (set a 0 x)))) v) → c ≡ checked (put_mid 1 8 (set a 0 x) r)
      → put_mid first k t c ≡ count_written t first flag v
  unfolding count_written
  count_laid flag x f l e i p =
      let b = flag_behind a r v flag x l i p in
      put_checked t first k (flag ∷ padded 8 v) _ _ c (flag_then flag v f h) (omega (arith, length-padded 8 v)) b.1 b.0

pub wiped_put : (t : List ℕ) (from a k : ℕ) → a ≡ min from (length t) → k ≡ length t - a → put_mid a k t (replicate k 0) ≡ wiped t from
unfolding wiped
wiped_put t from a k e f =
    let n : k ≡ length t - from = omega arith in
    ap (λ (x : List ℕ). take a t ++ (replicate k 0 ++ x)) (drop_of_length-le (drop a t) {i = k} (omega (arith, length-drop a t)))
    ∙ ap (λ (x : List ℕ). take a t ++ x) (append-nil (replicate k 0))
    ∙ ap₂ (λ (x : List ℕ) (m : ℕ). x ++ replicate m 0) (ap (λ (m : ℕ). take m t) e ∙ take_min from t) n
