-- The areas of a soundly written track: each is readable, and two of them are one area or have no cell in common. Why: every cell of a
-- record is a recorded byte, so no marker stands in one; so each marker begins a record that the track is written with, and of two
-- records one ends before the other begins.
use Prim.Native.Nat.{ℕ, zero, suc, ◌+◌, ◌-◌, ◌/◌, ◌<◌, ◌≤◌}
use native.Mathlib.Omega.{arith}
use native.Mathlib.Decide.{dec_lt, ℕ_discrete}
use mathlib.Core.Path.{◌≡◌, refl, sym, ap, ◌∙◌, subst}
use mathlib.Core.Bool.{true}
use mathlib.Core.List.{List, [], ◌∷◌}
use mathlib.Core.Logic.{◌⊎◌, inl, inr, ⊎_elim}
use lib.ListN.{length, get_or}
use lib.Dec.{eqb, leb}
use borrow.Author.Tests.{eqb-true, leb-true}
use Rattle.cells.specs.Cells.{is_byte, bytes_of, all_bytes, mark_at}
use Rattle.cells.proofs.Laws.{get_or-part}
use Rattle.cells.proofs.Marks.{get_or-marks}
use Rattle.cells.proofs.Tests.{first_of, second_of}
use Rattle.house_check.specs.Check.{check_bytes, agrees, good_cells}
use Rattle.areas.specs.declared.{Area.Area}
use Rattle.areas.specs.Areas.{area_cells, readable, home_area, count_area, counts_at, key_area, data_area, record_cells, end_by}
use Rattle.areas.proofs.Laws.{no_key, some_key}
use Rattle.hunt.specs.declared.{Spot.Spot}
use Rattle.hunt.specs.declared.Spot.TheVariants.{R0, Marker}
use Rattle.hunt.specs.Hunt.{count_first, spot_fits}
use Rattle.sound.specs.Sound.{end_at, Record, Records, none, more, Sound}
use Rattle.claim_track.specs.Damage.{IsRecord, Own, own_home, own_count, own_key, own_data, In}

-- ---- a readable area

-- its cells are all there and recorded bytes, and the check agrees
pub record Good (n : ℕ) (l : List ℕ) : Type 0 where
  pub long : length l ≡ n + check_bytes
  pub bytes : all_bytes l ≡ true
  pub agree : agrees n (bytes_of l) ≡ true

pub good : (t : List ℕ) (a : Area) → readable t a ≡ true → Good a.bytes (area_cells t a)
unfolding readable good_cells
good t a e =
    let l : List ℕ = area_cells t a in
    let f = second_of (eqb (length l) (a.bytes + 2)) _ e in
    record {
      long = eqb-true _ _ (first_of (eqb (length l) (a.bytes + 2)) _ e);
      bytes = first_of (all_bytes l) _ f;
      agree = second_of (all_bytes l) _ f;
    }

byte_at : (l : List ℕ) (i : ℕ) → all_bytes l ≡ true → i < length l → is_byte (get_or l i 0) ≡ true
unfolding all_bytes
byte_at [] i e h = absurd (omega arith)
byte_at (x ∷ l) zero e h = first_of (is_byte x) _ e
byte_at (x ∷ l) (suc i) e h = byte_at l i (second_of (is_byte x) _ e) (omega arith)

-- cell i of an area, counted from its first
pub area_cell : (t : List ℕ) (a : Area) (i : ℕ) → i < a.bytes + 2 → get_or (area_cells t a) i 0 ≡ get_or t (a.first + i) 0
unfolding area_cells
area_cell t a i h = get_or-part t a.first (a.bytes + 2) i h

pub cell_recorded : (t : List ℕ) (a : Area) (i : ℕ) → readable t a ≡ true → In a i → is_byte (get_or t i 0) ≡ true
cell_recorded t a i e h =
    let G = good t a e in
    let j : i ≡ a.first + (i - a.first) = omega arith in
    ap (λ (k : ℕ). is_byte (get_or t k 0)) j ∙ ap is_byte (sym (area_cell t a (i - a.first) (omega arith)))
    ∙ byte_at (area_cells t a) (i - a.first) G.bytes (omega (arith, G.long))

-- a recorded byte is no marker
pub no_marker : (x : ℕ) → is_byte x ≡ true → x ≡ 512 → ⊥
no_marker x e m = omega (arith, eqb-true (x / 256) 1 e)

-- ---- a record: all its cells are recorded bytes

split : (m n : ℕ) → (m < n) ⊎ (n ≤ m)
split m n = go (dec_lt m n)
  where
    go : Dec (m < n) → (m < n) ⊎ (n ≤ m)
    go (yes p) = inl p
    go (no q) = inr (omega arith)

module _ (t : List ℕ) where
  record_recorded : (c i : ℕ) → Record t c → c ≤ i → i < end_at t c → is_byte (get_or t i 0) ≡ true
  unfolding key_area data_area record_cells end_by
  record_recorded c i R h k =
      ⊎_elim (λ a. cell_recorded t (count_area c) i R.count (h, omega arith)) (λ a. go a (ℕ_discrete (counts_at t c).kl 0)) (split i (c + 11))
    where
      body : (data_area c (counts_at t c)).first ≤ i → is_byte (get_or t i 0) ≡ true
      body q = cell_recorded t (data_area c (counts_at t c)) i R.body (q, omega arith)

      go : c + 11 ≤ i → Dec ((counts_at t c).kl ≡ 0) → is_byte (get_or t i 0) ≡ true
      go a (yes z) = body (omega (arith, no_key (counts_at t c) z))
      go a (no z) =
          ⊎_elim (λ b. cell_recorded t (key_area c (counts_at t c)) i (R.key z) (a, omega arith))
          (λ b. body (omega (arith, some_key (counts_at t c) z))) (split i (c + 11 + ((counts_at t c).kl + 2)))

  -- no marker stands in it
  pub unmarked : (c q : ℕ) → Record t c → c ≤ q → get_or t q 0 ≡ 512 → end_at t c ≤ q
  unmarked c q R h m = ⊎_elim (λ k. absurd (no_marker (get_or t q 0) (record_recorded c q R h k) m)) (λ k. k) (split q (end_at t c))

  -- every marker from p on begins a record
  begins : {f p : ℕ} → Records t f p → (q : ℕ) → p ≤ q → get_or t q 0 ≡ 512 → Record t (q + 1)
  begins (none z) q h m = absurd (omega (arith, z q h))
  begins {p = p} (more n R f r) q h m = go (ℕ_discrete q p) (λ k. begins r q k m)
    where
      go : Dec (q ≡ p) → (end_at t (p + 1) ≤ q → Record t (q + 1)) → Record t (q + 1)
      go (yes e) k = subst (λ (x : ℕ). Record t (x + 1)) (sym e) R
      go (no e) k = k (unmarked (p + 1) q R (omega arith) m)

  -- ---- the records of a soundly written track

  pub begun-marker : (p : ℕ) → IsRecord t (Marker p) → (7 ≤ p) × (get_or t p 0 ≡ 512)
  unfolding spot_fits mark_at
  begun-marker p b =
      let e = sym (get_or-marks t p) ∙ b in
      (leb-true 7 p (first_of (leb 7 p) _ e), eqb-true _ _ (second_of (leb 7 p) _ e))

  begun_from : (r : Spot) → IsRecord t r → 7 ≤ count_first r
  unfolding count_first
  begun_from R0 b = omega arith
  begun_from (Marker p) b = omega (arith, (begun-marker p b).0)

  pub begun_record : Sound t → (r : Spot) → IsRecord t r → Record t (count_first r)
  unfolding count_first
  begun_record S R0 b = S.r0
  begun_record S (Marker p) b =
      let B = begun-marker p b in
      begins S.rest p (unmarked 7 p S.r0 B.0 B.1) B.1

  -- of two records one ends before the other begins
  pub begun_apart : Sound t → (r r' : Spot) → IsRecord t r → IsRecord t r' → count_first r < count_first r' → end_at t (count_first r) < count_first r'
  unfolding count_first
  begun_apart S r R0 b b' h = absurd (omega (arith, begun_from r b))
  begun_apart S r (Marker q) b b' h =
      omega (arith, unmarked (count_first r) q (begun_record S r b) (omega arith) (begun-marker q b').1)

-- ---- the areas of a record

-- no cell in common
abbrev pub Apart : Area → Area → Type 0
Apart a x = (a.first + a.bytes + check_bytes ≤ x.first) ⊎ (x.first + x.bytes + check_bytes ≤ a.first)

-- the areas of the record whose count area is at c
data Its (t : List ℕ) (c : ℕ) : Area → Type 0 where
  its_count : Its t c (count_area c)
  its_key : ((counts_at t c).kl ≡ 0 → ⊥) → Its t c (key_area c (counts_at t c))
  its_data : Its t c (data_area c (counts_at t c))

module _ (t : List ℕ) (c : ℕ) where
  its_in : (a : Area) → Its t c a → (c ≤ a.first) × (a.first + a.bytes + check_bytes ≤ end_at t c)
  unfolding key_area data_area record_cells end_by
  its_in a its_count = (omega arith, omega arith)
  its_in a (its_key k) = (omega arith, omega (arith, some_key (counts_at t c) k))
  its_in a its_data = (omega arith, omega arith)

  its_apart : (a x : Area) → Its t c a → Its t c x → (a ≡ x) ⊎ Apart a x
  unfolding key_area data_area
  its_apart a x its_count its_count = inl refl
  its_apart a x its_count (its_key k) = inr (inl (omega arith))
  its_apart a x its_count its_data = inr (inl (omega arith))
  its_apart a x (its_key k) its_count = inr (inr (omega arith))
  its_apart a x (its_key k) (its_key k') = inl refl
  its_apart a x (its_key k) its_data = inr (inl (omega (arith, some_key (counts_at t c) k)))
  its_apart a x its_data its_count = inr (inr (omega arith))
  its_apart a x its_data (its_key k) = inr (inr (omega (arith, some_key (counts_at t c) k)))
  its_apart a x its_data its_data = inl refl

-- ---- the areas of a track

-- the home address, or an area of a record that is there
data Where (t : List ℕ) : Area → Type 0 where
  home : Where t home_area
  its : {a : Area} (r : Spot) → IsRecord t r → Its t (count_first r) a → Where t a

where? : (t : List ℕ) (a : Area) → Own t a → Where t a
where? t a own_home = home
where? t a (own_count r b) = its r b its_count
where? t a (own_key r b k) = its r b (its_key k)
where? t a (own_data r b) = its r b its_data

pub own_readable : (t : List ℕ) → Sound t → (a : Area) → Own t a → readable t a ≡ true
own_readable t S a own_home = S.home
own_readable t S a (own_count r b) = (begun_record t S r b).count
own_readable t S a (own_key r b k) = (begun_record t S r b).key k
own_readable t S a (own_data r b) = (begun_record t S r b).body

module _ (t : List ℕ) (S : Sound t) where
  -- the home address lies before every record
  home_before : (a : Area) (r : Spot) → IsRecord t r → Its t (count_first r) a → 7 ≤ a.first
  home_before a r b p = omega (arith, (its_in t (count_first r) a p).0, begun_from t r b)

  where_apart : (a x : Area) → Where t a → Where t x → (a ≡ x) ⊎ Apart a x
  where_apart a x home home = inl refl
  where_apart a x home (its r b p) = inr (inl (home_before x r b p))
  where_apart a x (its r b p) home = inr (inr (home_before a r b p))
  where_apart a x (its r b p) (its r' b' p') =
      let i = its_in t (count_first r) a p in
      let i' = its_in t (count_first r') x p' in
      ⊎_elim (λ h. inr (inl (omega (arith, begun_apart t S r r' b b' h, i.1, i'.0))))
      (λ h.
      ⊎_elim (λ k. inr (inr (omega (arith, begun_apart t S r' r b' b k, i'.1, i.0))))
      (λ k.
      let e : count_first r' ≡ count_first r = omega arith in
      its_apart t (count_first r) a x p (subst (λ (c : ℕ). Its t c x) e p'))
      (split (count_first r') (count_first r)))
      (split (count_first r) (count_first r'))

pub own_apart : (t : List ℕ) → Sound t → (a x : Area) → Own t a → Own t x → (a ≡ x) ⊎ Apart a x
own_apart t S a x o o' = where_apart t S a x (where? t a o) (where? t x o')
