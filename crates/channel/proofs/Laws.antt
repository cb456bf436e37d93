-- Laws of how the channel ends a command, by the tests that the code makes.
use Prim.Native.Nat.{ℕ, ◌-◌, ◌/◌, ◌%◌, ◌<◌, ◌≤◌, min}
use mathlib.Core.Path.{◌≡◌, refl, sym, ap, ◌∙◌, subst}
use mathlib.Core.Bool.{Bool, true, false, not}
use mathlib.Core.List.{List}
use native.Mathlib.Omega.{arith}
use native.Mathlib.Decide.{dec_lt}
use lib.ListN.{length}
use lib.Dec.{ltb, eqb}
use borrow.Author.Tests.{eq-eqb, ne_eqb, lt-ltb, le-ltb}
use Rattle.cells.specs.Cells.{pick, both, either}
use Rattle.words.specs.declared.{Word.Word, Status.Status}
use Rattle.words.specs.Words.{chains, suppresses, Storable, stored, status_for}
use Rattle.held.specs.declared.{Channel.Channel}
use Rattle.held.specs.Held.{rested}
use Rattle.channel.specs.Channel.{unit_status, ends_well, stride, onward, bytes_moved, length_counts, wrong_length, goes_on, status_after, held_after, with_status}
use Rattle.turn.specs.declared.{Report.Report}
use Rattle.turn.specs.Turn.{wants}

module _ (w : Word) (d : Report) where
  pub moved_within : bytes_moved w d ≤ w.count
  unfolding bytes_moved
  moved_within = omega arith

  -- the length that counts, by its tests
  shape : (a b x : Bool) → length_counts d ≡ a → suppresses w ≡ b
      → either (ltb (bytes_moved w d) w.count) (ltb w.count (wants d.transfer)) ≡ x → both a (both (not b) x) ≡ wrong_length w d
  unfolding wrong_length
  shape a b x p q r = λ i. both (sym p i) (both (not (sym q i)) (sym r i))

  pub not_counted : (b : Bool) → b ≡ length_counts d → b ≡ false → false ≡ wrong_length w d
  not_counted b p e = shape false _ _ (sym p ∙ e) refl refl

  pub suppressed : (b : Bool) → b ≡ length_counts d → b ≡ true → w.flags / 32 % 2 ≡ 1 → false ≡ wrong_length w d
  suppressed b p e q = shape true true _ (sym p ∙ e) (eq-eqb _ _ q) refl

  -- count left, or more wanted
  differs : (c n : ℕ) → either (ltb (min c n) c) (ltb c n) ≡ not (eqb n c)
  differs c n = go (dec_lt c n) (dec_lt n c)
    where
      go : Dec (c < n) → Dec (n < c) → either (ltb (min c n) c) (ltb c n) ≡ not (eqb n c)
      go (yes h) k = rw (lt-ltb c n h, ne_eqb n c (λ e. omega (arith, h, e)), le-ltb (min c n) c (omega (arith, h)))
      go (no h) (yes k) = rw (lt-ltb (min c n) c (omega (arith, k)), ne_eqb n c (λ e. omega (arith, k, e)))
      go (no h) (no k) = rw (le-ltb (min c n) c (omega arith), le-ltb c n (omega arith), eq-eqb n c (omega arith))

  pub by_wanted : (b : Bool) (n : ℕ) → b ≡ length_counts d → b ≡ true → (w.flags / 32 % 2 ≡ 1 → ⊥) → n ≡ wants d.transfer
      → not (eqb n w.count) ≡ wrong_length w d
  unfolding bytes_moved
  by_wanted b n p e q r =
      rw (r) (shape true false _ (sym p ∙ e) (ne_eqb _ _ q) (differs w.count (wants d.transfer)))

  -- channel status
  pub length_wrong : (b : Bool) (n : ℕ) → b ≡ wrong_length w d → b ≡ true → n ≡ 0x40 → n ≡ pick (wrong_length w d) 0x40 0x00
  length_wrong b n p q e = e ∙ ap (λ (x : Bool). pick x 0x40 0x00) (sym q ∙ p)

  pub length_right : (b : Bool) (n : ℕ) → b ≡ wrong_length w d → b ≡ false → n ≡ 0x00 → n ≡ pick (wrong_length w d) 0x40 0x00
  length_right b n p q e = e ∙ ap (λ (x : Bool). pick x 0x40 0x00) (sym q ∙ p)

  -- whether the chain goes on, by the tests
  onto : (a b x : Bool) → chains w ≡ a → wrong_length w d ≡ b → ends_well d.ending ≡ x → both a (both (not b) x) ≡ goes_on w d
  unfolding goes_on
  onto a b x p q r = λ i. both (sym p i) (both (not (sym q i)) (sym r i))

  pub no_chaining : (w.flags / 64 % 2 ≡ 1 → ⊥) → false ≡ goes_on w d
  no_chaining p = onto false _ _ (ne_eqb _ _ p) refl refl

  pub wrong_ends : (b : Bool) → w.flags / 64 % 2 ≡ 1 → b ≡ wrong_length w d → b ≡ true → false ≡ goes_on w d
  wrong_ends b p q r = onto true true _ (eq-eqb _ _ p) (sym q ∙ r) refl

  pub by_ending : (b : Bool) → w.flags / 64 % 2 ≡ 1 → b ≡ wrong_length w d → b ≡ false → ends_well d.ending ≡ goes_on w d
  by_ending b p q r = onto true false _ (eq-eqb _ _ p) (sym q ∙ r) refl

  module _ (c : Channel) where
    pub held_rests : (b : Bool) → b ≡ goes_on w d → b ≡ false → rested d.position ≡ held_after c w d
    unfolding held_after
    held_rests b p q =
        ap (λ (x : Bool). pick x (record { position = d.position; orders = d.orders; channel = onward c (stride d.ending) }) (rested d.position)) (sym q ∙ p)

    pub held_on : (b : Bool) (k : Channel) (n : ℕ) → b ≡ goes_on w d → b ≡ true → n ≡ stride d.ending → k ≡ onward c n
        → record { position = d.position; orders = d.orders; channel = k } ≡ held_after c w d
    unfolding held_after
    held_on b k n p q r s =
        ap (λ (x : Channel). record { position = d.position; orders = d.orders; channel = x }) (s ∙ ap (onward c) r)
        ∙ ap (λ (x : Bool). pick x (record { position = d.position; orders = d.orders; channel = onward c (stride d.ending) }) (rested d.position)) (sym q ∙ p)

    pub storage_on : (b : Bool) (s : List ℕ) → b ≡ goes_on w d → b ≡ true → s ≡ with_status c w d s
    unfolding with_status
    storage_on b s p q = ap (λ (x : Bool). pick x s (stored s (status_after c w d))) (sym q ∙ p)

    pub storage_ends : (b : Bool) (s : List ℕ) → b ≡ goes_on w d → b ≡ false → stored s (status_after c w d) ≡ with_status c w d s
    unfolding with_status
    storage_ends b s p q = ap (λ (x : Bool). pick x s (stored s (status_after c w d))) (sym q ∙ p)

    -- the status word, by what the code works out
    pub status_is : (x : Status) (u n m : ℕ) → x ≡ status_for c.key c.next u n (w.count - m) → u ≡ unit_status d.ending
        → n ≡ pick (wrong_length w d) 0x40 0x00 → m ≡ bytes_moved w d → x ≡ status_after c w d
    unfolding status_after
    status_is x u n m e p q r = e ∙ (λ i. status_for c.key c.next (p i) (q i) (w.count - r i))

    -- it can be stored
    fits : (s : List ℕ) → 72 ≤ length s → c.key < 16 → Storable s (status_after c w d)
    unfolding status_after status_for
    fits s h k = record { reaches = h; key = k; address = omega arith }

    pub storable : (s : List ℕ) (x : Status) → x ≡ status_after c w d → 72 ≤ length s → c.key < 16 → Storable s x
    storable s x e h k = subst (Storable s) (sym e) (fits s h k)
