-- The records that Search ID comes to, one after another, by the markers alone: from a place those ahead in order, then past the index R0, then those from
-- cell 7 on. So each is met before a second index point would be passed, and none twice before it.
use Prim.Native.Nat.{ℕ, zero, suc, ◌+◌, ◌-◌, ◌<◌, ◌≤◌}
use mathlib.Core.Path.{◌≡◌, refl, sym, ap, ◌∙◌, subst}
use mathlib.Core.Bool.{Bool, true, false}
use mathlib.Core.List.{List, [], ◌∷◌}
use native.Mathlib.Omega.{arith}
use native.Mathlib.Decide.{dec_lt}
use native.Mathlib.Numerals.{add-one}
use native.Mathlib.Nat.{zero-add, add-zero}
use lib.ListN.{length, get_or, drop, drop_of_length-le}
use lib.Seq.{drop-cons, drop-drop}
use lib.Dec.{ltb}
use borrow.Author.Tests.{lt-ltb, le-ltb}
use Rattle.cells.specs.Cells.{pick}
use Rattle.hunt.specs.declared.{Spot.Spot}
use Rattle.hunt.specs.declared.Spot.TheVariants.{R0, Marker}
use Rattle.hunt.specs.Hunt.{scan, hunt, ahead_or, next_id, count_first}
use Rattle.hunt.proofs.Laws.{id_low, id_high}
use Rattle.claim_back.specs.Found.{marked}
use Rattle.std.specs.Prelude.{Some, None}

-- from place p and tally i, past k other records, the search comes to r with tally j
pub data Walk (m : List Bool) (r : Spot) : ℕ → ℕ → ℕ → ℕ → Type 0 where
  here : {p i j : ℕ} (n : ℕ) → next_id m p ≡ Some (r, n) → i + n ≡ j → j ≤ 1 → Walk m r p i zero j
  on : {p i k j : ℕ} (x : Spot) (n h : ℕ) → next_id m p ≡ Some (x, n) → i + n ≡ h → h ≤ 1 → (x ≡ r → ⊥) → Walk m r (count_first x) h k j → Walk m r p i (suc k) j

-- R0, or a marker of these from cell 7 on
abbrev pub Lies : List Bool → Spot → Type 0
Lies m R0 = Unit {0}
Lies m (Marker q) = (7 ≤ q) × (q < length m) × (get_or m q false ≡ true)

apart : (p q : ℕ) → (p ≡ q → ⊥) → Marker p ≡ Marker q → ⊥
unfolding count_first
apart p q h e = let z : p + 1 ≡ q + 1 = ap count_first e in h (omega arith)

marker_no_r0 : (p : ℕ) → 7 ≤ p → Marker p ≡ R0 → ⊥
unfolding count_first
marker_no_r0 p h e = let z : p + 1 ≡ 7 = ap count_first e in omega arith

-- ---- markers behind a place

fewer : (n : ℕ) (m : List Bool) → marked (drop n m) ≤ marked m
unfolding marked
fewer zero m = omega arith
fewer (suc n) [] = omega arith
fewer (suc n) (b ∷ m) = omega (arith, fewer n m)

-- no more than cells
pub marked_most : (m : List Bool) → marked m ≤ length m
unfolding marked
marked_most [] = omega arith
marked_most (true ∷ m) = omega (arith, marked_most m)
marked_most (false ∷ m) = omega (arith, marked_most m)

module _ (m : List Bool) where
  fewer_on : (p n : ℕ) → marked (drop (p + n) m) ≤ marked (drop p m)
  fewer_on p n = subst (λ (l : List Bool). marked l ≤ marked (drop p m)) (drop-drop n p m) (fewer n (drop p m))

  module _ (p : ℕ) (h : p < length m) (b : Bool) (e : get_or m p false ≡ b) where
    cell : drop p m ≡ b ∷ drop (p + 1) m
    cell = drop-cons m p false h ∙ (λ i. e i ∷ drop (sym (add-one p) i) m)

    one_more : marked (drop p m) ≡ pick b 1 0 + marked (drop (p + 1) m)
    unfolding marked
    one_more = ap marked cell

    hunt_by : hunt m p ≡ pick b (Some p) (hunt m (p + 1))
    unfolding hunt scan
    hunt_by = ap (λ (l : List Bool). scan l p) cell ∙ ap (λ (q : ℕ). pick b (Some p) (scan (drop (p + 1) m) q)) (sym (add-one p))

  -- ---- where the search comes to from place p

  id_marked : (p : ℕ) → 7 ≤ p → p < length m → get_or m p false ≡ true → next_id m p ≡ Some (Marker p, 0)
  unfolding ahead_or
  id_marked p l h e = sym (id_high m p (Some p) l (hunt_by p h true e))

  id_bare : (p : ℕ) → 7 ≤ p → p < length m → get_or m p false ≡ false → next_id m p ≡ next_id m (p + 1)
  id_bare p l h e =
      sym (id_high m p (hunt m (p + 1)) l (hunt_by p h false e)) ∙ id_high m (p + 1) (hunt m (p + 1)) (omega arith) refl

  id_end : (p : ℕ) → 7 ≤ p → length m ≤ p → next_id m p ≡ Some (R0, 1)
  unfolding ahead_or hunt scan
  id_end p l h = sym (id_high m p None l (ap (λ (x : List Bool). scan x p) (drop_of_length-le m h)))

  from : {r : Spot} {p q i k j : ℕ} → next_id m p ≡ next_id m q → Walk m r q i k j → Walk m r p i k j
  from e (here n f c l) = here n (e ∙ f) c l
  from e (on x n h f c l d w) = on x n h (e ∙ f) c l d w

  -- ---- to a marker ahead: no index point is passed

  module _ (q : ℕ) (inside : q < length m) (mark : get_or m q false ≡ true) where
    ahead : (n p i : ℕ) → p + n ≡ q → 7 ≤ p → i ≤ 1
        → (k : ℕ) × Walk m (Marker q) p i k i × (k + 1 + marked (drop (q + 1) m) ≡ marked (drop p m))
    unfolding count_first
    ahead zero p i e l c =
        let z : p ≡ q = omega arith in
        let f : get_or m p false ≡ true = ap (λ (x : ℕ). get_or m x false) z ∙ mark in (
          0,
          here 0 (id_marked p l (omega arith) f ∙ ap (λ (x : ℕ). Some (Marker x, 0)) z) (add-zero i) c,
          ap (λ (x : ℕ). 0 + 1 + marked (drop (x + 1) m)) (sym z) ∙ sym (one_more p (omega arith) true f),
        )
    ahead (suc n) p i e l c = go (get_or m p false) refl (ahead n (p + 1) i (omega arith) (omega arith) c)
      where
        go : (b : Bool) → get_or m p false ≡ b
            → (k : ℕ) × Walk m (Marker q) (p + 1) i k i × (k + 1 + marked (drop (q + 1) m) ≡ marked (drop (p + 1) m))
            → (k : ℕ) × Walk m (Marker q) p i k i × (k + 1 + marked (drop (q + 1) m) ≡ marked (drop p m))
        go true f (k, w, z) = (
          suc k,
          on (Marker p) 0 i (id_marked p l (omega arith) f) (add-zero i) c (apart p q (λ z. omega arith)) w,
          omega (arith, z, one_more p (omega arith) true f),
        )
        go false f (k, w, z) = (k, from (id_bare p l (omega arith) f) w, omega (arith, z, one_more p (omega arith) false f))

  -- ---- to a record that is not ahead: all markers ahead, then R0 past the index

  module _ (r : Spot) (k j : ℕ) (end : (p : ℕ) → next_id m p ≡ Some (R0, 1) → Walk m r p 0 k j) where
    past_end : (p : ℕ) → 7 ≤ p → length m ≤ p → Walk m r p 0 (marked (drop p m) + k) j
    unfolding marked
    past_end p l h =
        subst (λ (x : ℕ). Walk m r p 0 x j) (sym (ap (λ (x : List Bool). marked x + k) (drop_of_length-le m h) ∙ zero-add k)) (end p (id_end p l h))

    past : (n p : ℕ) → length m ≤ p + n → 7 ≤ p → ((x : ℕ) → p ≤ x → Marker x ≡ r → ⊥) → Walk m r p 0 (marked (drop p m) + k) j
    unfolding count_first
    past zero p e l d = past_end p l (omega arith)
    past (suc n) p e l d = go (dec_lt p (length m)) (get_or m p false) refl (past n (p + 1) (omega arith) (omega arith) (λ x h. d x (omega arith)))
      where
        go : Dec (p < length m) → (b : Bool) → get_or m p false ≡ b → Walk m r (p + 1) 0 (marked (drop (p + 1) m) + k) j → Walk m r p 0 (marked (drop p m) + k) j
        go (no h) b f w = past_end p l (omega arith)
        go (yes h) true f w =
            subst (λ (x : ℕ). Walk m r p 0 x j) {x = suc (marked (drop (p + 1) m) + k)} (omega (arith, one_more p h true f))
            (on (Marker p) 0 0 (id_marked p l h f) refl (omega arith) (d p (omega arith)) w)
        go (yes h) false f w =
            subst (λ (x : ℕ). Walk m r p 0 x j) {x = marked (drop (p + 1) m) + k} (omega (arith, one_more p h false f)) (from (id_bare p l h f) w)

-- ---- from any place to any record: past each other one at most once, and past the index unless it lies ahead

-- ending with tally j
abbrev pub Way : List Bool → ℕ → Spot → ℕ → Type 0
Way m p r j = (k : ℕ) × Walk m r p 0 k j × (k ≤ marked m)

module _ (m : List Bool) (p : ℕ) where
  to_r0 : Way m p R0 (pick (ltb p 7) 0 1)
  to_r0 = go (dec_lt p 7)
    where
      go : Dec (p < 7) → Way m p R0 (pick (ltb p 7) 0 1)
      go (yes h) = subst (Way m p R0) (ap (λ (b : Bool). pick b 0 1) (sym (lt-ltb p 7 h))) (0, here 0 (sym (id_low m p h)) refl (omega arith), omega arith)
      go (no h) =
          subst (Way m p R0) (ap (λ (b : Bool). pick b 0 1) (sym (le-ltb p 7 (omega arith)))) (
            marked (drop p m) + 0,
            past m R0 0 1 (λ p e. here 1 e refl (omega arith)) (length m) p (omega arith) (omega arith) (λ x l e. marker_no_r0 x (omega arith) e),
            omega (arith, fewer p m),
          )

  module _ (q : ℕ) (low : 7 ≤ q) (inside : q < length m) (mark : get_or m q false ≡ true) where
    to_marker : Way m p (Marker q) (pick (ltb p (q + 1)) 0 1)
    unfolding count_first
    to_marker = go (dec_lt p 7) (dec_lt p (q + 1))
      where
        no_r0 : R0 ≡ Marker q → ⊥
        no_r0 e = marker_no_r0 q low (sym e)

        is : (b : Bool) → ltb p (q + 1) ≡ b → Way m p (Marker q) (pick b 0 1) → Way m p (Marker q) (pick (ltb p (q + 1)) 0 1)
        is b e w = subst (λ (x : Bool). Way m p (Marker q) (pick x 0 1)) (sym e) w

        go : Dec (p < 7) → Dec (p < q + 1) → Way m p (Marker q) (pick (ltb p (q + 1)) 0 1)
        go (yes h) l =
            let a = ahead m q inside mark (q - 7) 7 0 (omega arith) (omega arith) (omega arith) in
            is true (lt-ltb p (q + 1) (omega arith)) (suc a.0, on R0 0 0 (sym (id_low m p h)) refl (omega arith) no_r0 a.1, omega (arith, a.2, fewer 7 m))
        go (no h) (yes l) =
            let a = ahead m q inside mark (q - p) p 0 (omega arith) (omega arith) (omega arith) in
            is true (lt-ltb p (q + 1) l) (a.0, a.1, omega (arith, a.2, fewer p m))
        go (no h) (no l) =
            let a = ahead m q inside mark (q - 7) 7 1 (omega arith) (omega arith) (omega arith) in
            let f = fewer_on m (q + 1) (p - (q + 1)) in
            let z : q + 1 + (p - (q + 1)) ≡ p = omega arith in
            is false (le-ltb p (q + 1) (omega arith)) (
              marked (drop p m) + suc a.0,
              past m (Marker q) (suc a.0) 1 (λ p e. on R0 1 1 e refl (omega arith) no_r0 a.1) (length m) p (omega arith) (omega arith)
                  (λ x b. apart x q (λ z. omega arith)),
              omega (arith, a.2, fewer 7 m, subst (λ (x : ℕ). marked (drop x m) ≤ marked (drop (q + 1) m)) z f),
            )

pub walk : (m : List Bool) (p : ℕ) (r : Spot) → Lies m r → Way m p r (pick (ltb p (count_first r)) 0 1)
unfolding count_first
walk m p R0 there = to_r0 m p
walk m p (Marker q) there = to_marker m p q there.0 there.1 there.2
