-- Bytes put into lent ones, part behind part: as many as are not left out and find room.
use Prim.Native.Nat.{ℕ, zero, suc, ◌+◌, ◌-◌, ◌<◌, ◌≤◌, min}
use mathlib.Core.Path.{◌≡◌, refl, sym, ap, ap₂, ◌∙◌, subst}
use mathlib.Core.List.{List, [], ◌∷◌, ◌++◌}
use native.Mathlib.Omega.{arith}
use native.Mathlib.Decide.{dec_lt}
use lib.ListN.{length, get_or, take, drop, set, length-take, length-drop, length-append}
use lib.Seq.{take-nil, drop-nil}
use Rattle.cells.specs.Cells.{pick, part, overlay, byte_of, bytes_of}
use Rattle.cells.proofs.Laws.{length-bytes_of, take-bytes_of, drop-bytes_of, length-overlay, overlay_none, overlay-two}
use Rattle.std.proofs.lemmas.List.{take_min, drop_min}
use borrow.Rule.Slice.PartMut.{put_mid}
use Rattle.recording.proofs.Laws.{map_more, map_all, put_over}
use Rattle.areas.specs.declared.{Area.Area, Counts.Counts}
use Rattle.areas.specs.Areas.{key_area, data_area}
use Rattle.turn.specs.Turn.{filled}
use Rattle.reads.specs.declared.{Filling.Filling, Parts.Parts}
use Rattle.reads.specs.Inside.{LieIf, portion, Puts, start, record_given}

-- ---- cells of the track

-- so many bytes that lie on the track are so many
pub long : (t : List ℕ) (first n : ℕ) → LieIf t first n → length (bytes_of (part t first n)) ≡ n
unfolding part
long t first n h = length-bytes_of (part t first n) ∙ length-take n (drop first t) ∙ go (dec_lt 0 n)
  where
    go : Dec (0 < n) → min n (length (drop first t)) ≡ n
    go (yes k) = omega (arith, length-drop first t, h.ends k)
    go (no k) = omega arith

-- the bytes of cells, one after another into lent ones
pub bytes_more : (d t : List ℕ) (j x : ℕ) → x ≡ byte_of (get_or t j 0) → j < length t → length t ≡ length d
    → set (take j (bytes_of t) ++ drop j d) j x ≡ take (j + 1) (bytes_of t) ++ drop (j + 1) d
unfolding bytes_of
bytes_more = map_more byte_of

pub bytes_all : (d t : List ℕ) (j : ℕ) → j ≡ length d → length t ≡ length d → take j (bytes_of t) ++ drop j d ≡ bytes_of t
unfolding bytes_of
bytes_all = map_all byte_of

-- ---- some left out, of two lists

drop-append : (k : ℕ) (x y : List ℕ) → drop k (x ++ y) ≡ drop k x ++ drop (k - length x) y
drop-append zero x y = let e : 0 ≡ 0 - length x = omega arith in ap (λ (m : ℕ). x ++ drop m y) e
drop-append (suc k) [] y = let e : suc k ≡ suc k - length {A = ℕ} [] = omega arith in ap (λ (m : ℕ). drop m y) e
drop-append (suc k) (a ∷ x) y =
    let e : k - length x ≡ suc k - length (a ∷ x) = omega arith in drop-append k x y ∙ ap (λ (m : ℕ). drop k x ++ drop m y) e

-- ---- the cells that are put, of the cells t

module _ (t l : List ℕ) (r : Filling) (skip m : ℕ) (p : skip ≡ min r.from (length t)) (q : m ≡ min (length t - skip) (length l - r.at)) where
  run : take m (drop skip t) ≡ take (length l - r.at) (drop r.from t)
  run =
      let rest : List ℕ = drop r.from t in
      let n : m ≡ min (length l - r.at) (length rest) = omega (arith, length-drop r.from t) in
      ap (take m) (ap (λ (k : ℕ). drop k t) p ∙ drop_min r.from t) ∙ ap (λ (k : ℕ). take k rest) n ∙ take_min (length l - r.at) rest

  run-portion : bytes_of (take m (drop skip t)) ≡ portion l r (bytes_of t)
  run-portion =
      let room = length l - r.at in
      ap bytes_of run ∙ sym (take-bytes_of room (drop r.from t)) ∙ ap (take room) (sym (drop-bytes_of r.from t))

  run_long : length (bytes_of (take m (drop skip t))) ≡ m
  run_long = omega (arith, length-bytes_of (take m (drop skip t)), length-take m (drop skip t), length-drop skip t)

  -- put behind the first ones
  pub run_puts : (i k : ℕ) (v : List ℕ) (x : Filling) → i ≡ m → k ≡ m → v ≡ bytes_of (take i (drop skip t)) → x.at ≡ r.at + m → x.from ≡ r.from - skip
      → Puts l r (bytes_of t) (put_mid r.at k l v) x
  run_puts i k v x f e g c d =
      let b : v ≡ bytes_of (take m (drop skip t)) = g ∙ ap (λ (n : ℕ). bytes_of (take n (drop skip t))) f in
      record {
        bytes = put_over l r.at k v (e ∙ sym run_long ∙ ap length (sym b)) ∙ ap (overlay l r.at) (b ∙ run-portion);
        next = c ∙ ap (λ (n : ℕ). r.at + n) (sym run_long ∙ ap length run-portion);
        left = omega (arith, length-bytes_of t);
      }

-- ---- one part behind another

module _ (l : List ℕ) (r : Filling) (a mid : List ℕ) (x : Filling) (h : r.at ≤ length l) (p : Puts l r a mid x) where
  room : length (portion l r a) ≤ length l - r.at
  room = omega (arith, length-take (length l - r.at) (drop r.from a))

  same_length : length mid ≡ length l
  same_length = ap length p.bytes ∙ length-overlay l r.at (portion l r a) (omega (arith, room))

  pub next_fits : x.at ≤ length mid
  next_fits = omega (arith, same_length, room, p.next)

  pub puts_both : (b out : List ℕ) (y : Filling) → Puts mid x b out y → Puts l r (a ++ b) out y
  puts_both b out y q =
      let n = length l - r.at in
      let u = drop r.from a in
      let w = drop (r.from - length a) b in
      let m = length (take n u) in
      let e : length mid - x.at ≡ n - m = omega (arith, same_length, p.next) in
      let f : portion mid x b ≡ take (n - m) w = ap₂ (λ (i j : ℕ). take i (drop j b)) e p.left in
      let g : portion l r (a ++ b) ≡ take n (u ++ w) = ap (take n) (drop-append r.from a b) in
      record {
        bytes =
            q.bytes ∙ (λ i. overlay (p.bytes i) (p.next i) (f i)) ∙ overlay-two l r.at n m u w (omega arith) refl
            ∙ ap (overlay l r.at) (sym g);
        next =
            omega
            (arith, q.next, p.next, ap length f, ap length g, length-take n u, length-take (n - m) w, length-take n (u ++ w), length-append u w);
        left = omega (arith, q.left, p.left, length-append a b);
      }

-- ---- count, key and data

pub lies_by : (t : List ℕ) (f g m n : ℕ) → f ≡ g → m ≡ n → LieIf t g n → LieIf t f m
lies_by t f g m n p q h = record { ends = λ k. omega (arith, h.ends (omega arith)) }

-- the cells u, v and w of the three
module _ (t : List ℕ) (s : Parts) (c : ℕ) (n : Counts) (k d : Area) (x y z : ℕ) (p : x ≡ pick s.counted 8 0) (q : k ≡ key_area c n)
    (i : y ≡ pick s.key n.kl 0) (j : d ≡ data_area c n) (o : z ≡ pick s.body n.dl 0) (u v w : List ℕ) (e : u ≡ part t (c + 1) x)
    (f : v ≡ part t k.first y) (g : w ≡ part t d.first z) where
  given_are : bytes_of u ++ (bytes_of v ++ bytes_of w) ≡ record_given t s c n
  given_are =
      ap₂ (λ (a b : List ℕ). bytes_of a ++ b) e (ap₂ (λ (a b : List ℕ). bytes_of a ++ bytes_of b) f g)
      ∙ (λ h. bytes_of (part t (c + 1) (p h)) ++ (bytes_of (part t (q h).first (i h)) ++ bytes_of (part t (j h).first (o h))))

  pub puts_record : (l l₁ l₂ out : List ℕ) (r a b x : Filling) → r.at ≤ length l → Puts l r (bytes_of u) l₁ a
      → Puts l₁ a (bytes_of v) l₂ b → Puts l₂ b (bytes_of w) out x → Puts l r (record_given t s c n) out x
  puts_record l l₁ l₂ out r a b x h p₁ p₂ p₃ =
      subst (λ (all : List ℕ). Puts l r all out x) given_are
      (puts_both l r _ l₁ a h p₁ _ out x (puts_both l₁ a _ l₂ b (next_fits l r _ l₁ a h p₁) p₂ _ out x p₃))

-- ---- all of them

-- nothing put is all that there is of nothing
pub none_put : (l : List ℕ) (from : ℕ) → l ≡ filled l from []
unfolding filled
none_put l from = sym (ap (λ (v : List ℕ). overlay l 0 (take (length l) v)) (drop-nil from) ∙ ap (overlay l 0) (take-nil (length l)) ∙ overlay_none l 0)

pub all_put : (l : List ℕ) (from : ℕ) (v out : List ℕ) (r x : Filling) → r ≡ start from → Puts l r v out x → out ≡ filled l from v
unfolding filled
all_put l from v out r x e p =
    let f : length l - 0 ≡ length l = omega arith in
    p.bytes ∙ ap (λ (s : Filling). overlay l s.at (portion l s v)) e ∙ ap (λ (k : ℕ). overlay l 0 (take k (drop from v))) f
