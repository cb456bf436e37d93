-- 05 and 0D leave a soundly written track if it was, and what they wrote can be read back. Why: each records one area or two anew, the
-- key and then the data of one record, and neither holds a cell of the other or of the count.
use Prim.Native.Nat.{ℕ, ◌+◌, ◌<◌, ◌≤◌}
use mathlib.Core.Path.{◌≡◌, refl, ap, ◌∙◌, subst}
use mathlib.Core.Bool.{Bool, true, false}
use mathlib.Core.List.{List, [], ◌∷◌, ◌++◌}
use native.Mathlib.Omega.{arith}
use lib.ListN.{length, get_or}
use lib.Dec.{ltb}
use borrow.Author.Tests.{ltb-true, ltb-false}
use Rattle.cells.specs.Cells.{pick, part, padded, overlay}
use Rattle.cells.proofs.Laws.{length-padded}
use Rattle.cells.proofs.Numbers.{Bytes}
use Rattle.house_check.specs.Check as House
use Rattle.areas.specs.declared.{Area.Area, Counts.Counts}
use Rattle.areas.specs.Areas.{counts_at, key_area, data_area, area_cells}
use Rattle.areas.proofs.Laws.{some_key}
use Rattle.hunt.specs.declared.{Spot.Spot}
use Rattle.hunt.specs.Hunt.{count_first}
use Rattle.command.specs.Command.{named, Sight, piece, over_piece, key_sent, all_recorded}
use Rattle.command.proofs.Seen.{lies}
use Rattle.turn.specs.Turn.{Piece, lay}
use Rattle.command.proofs.Pieces.{Over, over_in}
use Rattle.sound.specs.Sound.{Sound}
use Rattle.claim_track.specs.Damage.{IsRecord, Own, own_key, own_data, part_no}
use Rattle.claim_track.proofs.Areas.{own_readable}
use Rattle.claim_track.specs.Lasting.{ReadsAs, UpdateBack}
use Rattle.claim_track.proofs.Same.{same_readable, same_bytes}
use Rattle.claim_track.proofs.New.{sent_bytes}
use Rattle.claim_track.proofs.Format.{area-kept, counts_kept}
use Rattle.claim_track.proofs.Over.{Still, over_long, over_holds, over_before, over_still, data_filled, key_filled}

-- a key is sent only if it is named, and then all of it
key_there : (key : Bool) (n : Counts) → 0 < key_sent key n → key_sent key n ≡ n.kl
unfolding key_sent
key_there true n h = refl
key_there false n h = absurd (omega arith)

-- ---- the pieces of an update: areas recorded anew, one after another

-- an area, of n of the bytes sent from one on, if there are any
abbrev pub anew : List ℕ → List ℕ → Area → ℕ → ℕ → List ℕ
anew v t a from n = pick (ltb 0 n) (overlay t a.first (House.cells_with_check (padded n (part v from n)))) t

abbrev pub updated : Bool → List ℕ → ℕ → Counts → List ℕ → List ℕ
updated key v c n t = anew v (anew v t (key_area c n) 0 (key_sent key n)) (data_area c n) (key_sent key n) n.dl

laid_append : (l r : List Piece) (t : List ℕ) → lay (l ++ r) t ≡ lay r (lay l t)
unfolding lay
laid_append [] r t = refl
laid_append (p ∷ l) r t = laid_append l r (overlay t p.first p.cells)

module _ (x : Sight) where
  over_is : (a : Area) (from n : ℕ) (t : List ℕ) → lay (over_piece x a from n) t ≡ anew x.sent t a from n
  unfolding lay over_piece piece
  over_is a from n t = go (ltb 0 n)
    where
      w : List ℕ
      w = House.cells_with_check (padded n (part x.sent from n))

      go : (b : Bool) → lay (pick b (record { head = x.job.task.head; first = a.first; cells = w } ∷ []) []) t
          ≡ pick b (overlay t a.first w) t
      go true = refl
      go false = refl

  pub update_is : (key : Bool) (c : ℕ) (n : Counts) (t : List ℕ)
      → lay (over_piece x (key_area c n) 0 (key_sent key n) ++ over_piece x (data_area c n) (key_sent key n) n.dl) t ≡ updated key x.sent c n t
  update_is key c n t =
      laid_append (over_piece x (key_area c n) 0 (key_sent key n)) (over_piece x (data_area c n) (key_sent key n) n.dl) t
      ∙ over_is (data_area c n) (key_sent key n) n.dl (lay (over_piece x (key_area c n) 0 (key_sent key n)) t)
      ∙ ap (λ (z : List ℕ). anew x.sent z (data_area c n) (key_sent key n) n.dl) (over_is (key_area c n) 0 (key_sent key n) t)

-- ---- soundly written

module _ (v t : List ℕ) (b : Bytes v) (S : Sound t) (spot : Spot) (B : IsRecord t spot) where
  -- an area of the track that is no data area of DL 0
  record Whose (a : Area) (n : ℕ) : Type 0 where
    bytes : n ≡ a.bytes
    own : Own t a
    kind : 1 < part_no a.part
    filled : (r : Spot) → IsRecord t r → (counts_at t (count_first r)).dl ≡ 0 → data_area (count_first r) (counts_at t (count_first r)) ≡ a → ⊥

  anew_still : (a : Area) (from n : ℕ) → (0 < n → Whose a n) → Still t (anew v t a from n) spot
  anew_still a from n f = go (ltb 0 n) refl
    where
      w : List ℕ
      w = padded n (part v from n)

      go : (y : Bool) → ltb 0 n ≡ y → Still t (pick y (overlay t a.first (House.cells_with_check w)) t) spot
      go true e =
          let W : Whose a n = f (ltb-true 0 n e) in
          over_still t a w (sent_bytes v n from n b) (length-padded n (part v from n) ∙ W.bytes) (lies t a (own_readable t S a W.own))
          S W.own W.kind W.filled spot B
      go false e = record { sound = S; begun = B; counts = refl }

  abbrev c : ℕ
  c = count_first spot

  abbrev n : Counts
  n = counts_at t c

  key_still : (key : Bool) → Still t (anew v t (key_area c n) 0 (key_sent key n)) spot
  unfolding key_area part_no
  key_still key =
      anew_still (key_area c n) 0 (key_sent key n)
      (λ h. record {
        bytes = key_there key n h;
        own = own_key spot B (λ z. omega (arith, h, key_there key n h));
        kind = omega arith;
        filled = λ r B' z q. key_filled (count_first r) c (counts_at t (count_first r)) n q;
      })

  data_still : (from : ℕ) → Still t (anew v t (data_area c n) from n.dl) spot
  unfolding data_area part_no
  data_still from =
      anew_still (data_area c n) from n.dl
      (λ h. record {
        bytes = omega arith;
        own = own_data spot B;
        kind = omega arith;
        filled = λ r B' z q. data_filled t S spot r B B' h z q;
      })

-- the data go over what the key left
pub update_lasts : (key : Bool) (v t : List ℕ) → Bytes v → Sound t → (spot : Spot) → IsRecord t spot
    → Sound (updated key v (count_first spot) (counts_at t (count_first spot)) t)
update_lasts key v t b S spot B =
    let c : ℕ = count_first spot in
    let n : Counts = counts_at t c in
    let t₁ : List ℕ = anew v t (key_area c n) 0 (key_sent key n) in
    let K : Still t t₁ spot = key_still v t b S spot B key in
    subst (λ (m : Counts). Sound (anew v t₁ (data_area c m) (key_sent key n) m.dl)) K.counts
    (data_still v t₁ b K.sound spot K.begun (key_sent key n)).sound

-- ---- read back, from any track whose cells of these areas are recorded bytes

-- what an area recorded anew leaves: the length, the cells before it, and the area
record Anew (t t' : List ℕ) (a : Area) (P : Type 0) (w : List ℕ) : Type 0 where
  long : length t' ≡ length t
  before : (i : ℕ) → i < a.first → get_or t' i 0 ≡ get_or t i 0
  holds : P → ReadsAs t' a w

anew_back : (v t : List ℕ) → Bytes v → (a : Area) (from n : ℕ) → (0 < n → (n ≡ a.bytes) × (a.first + n + 2 ≤ length t))
    → Anew t (anew v t a from n) a (0 < n) (padded n (part v from n))
anew_back v t b a from n f = go (ltb 0 n) refl
  where
    w : List ℕ
    w = padded n (part v from n)

    wb : Bytes w
    wb = sent_bytes v n from n b

    go : (y : Bool) → ltb 0 n ≡ y → Anew t (pick y (overlay t a.first (House.cells_with_check w)) t) a (0 < n) w
    go true e =
        let q = f (ltb-true 0 n e) in
        let wl : length w ≡ a.bytes = length-padded n (part v from n) ∙ q.0 in
        let ends : a.first + a.bytes + 2 ≤ length t = omega (arith, q.0, q.1) in
        record { long = over_long t a w wb wl ends; before = over_before t a w wb wl ends; holds = λ _. over_holds t a w wb wl ends }
    go false e = record { long = refl; before = λ i h. refl; holds = λ h. absurd (omega (arith, ltb-false 0 n e)) }

pub update_back : (key : Bool) (v t : List ℕ) (c : ℕ) → Bytes v → all_recorded t (named c key true (counts_at t c)) ≡ true
    → UpdateBack key v t (updated key v c (counts_at t c) t) c
unfolding key_area data_area
update_back key v t c b A =
    let n : Counts = counts_at t c in
    let m : ℕ = key_sent key n in
    let O : Over t key c n = over_in t key c n A in
    let t₁ : List ℕ = anew v t (key_area c n) 0 m in
    let t₂ : List ℕ = anew v t₁ (data_area c n) m n.dl in
    let K : Anew t t₁ (key_area c n) (0 < m) (padded m (part v 0 m)) =
    anew_back v t b (key_area c n) 0 m (λ h. (key_there key n h, omega (arith, O.key_in h, key_there key n h))) in
    let D : Anew t₁ t₂ (data_area c n) (0 < n.dl) (padded n.dl (part v m n.dl)) =
    anew_back v t₁ b (data_area c n) m n.dl (λ h. (omega arith, omega (arith, O.data_in h, K.long))) in
    record {
      counts = counts_kept t₁ t₂ (data_area c n).first D.long D.before c (omega arith)
          ∙ counts_kept t t₁ (key_area c n).first K.long K.before c (omega arith);
      keyed = λ h.
          let z : m ≡ n.kl = key_there key n h in
          let e : area_cells t₂ (key_area c n) ≡ area_cells t₁ (key_area c n) =
          area-kept t₁ t₂ (data_area c n).first D.long D.before (key_area c n) (omega (arith, some_key n (λ q. omega (arith, h, z, q)))) in
          subst (λ (k : ℕ). ReadsAs t₂ (key_area c n) (padded k (part v 0 k))) z
          (record {
            reads = same_readable t₁ t₂ (key_area c n) e ∙ (K.holds h).reads;
            bytes = same_bytes t₁ t₂ (key_area c n) e ∙ (K.holds h).bytes;
          });
      body = D.holds;
    }
