-- The table agrees with the check bit by bit: at every entry by one computed test over the whole table, and then over any number of bytes. Why: eight
-- zeros bring the register's low byte up unchanged, and make of its high byte, with the new byte in it, an entry.
use mathlib.Core.Path.{◌≡◌, refl, sym, ap, ap₂, ◌∙◌, subst}
use mathlib.Core.List.{List, [], ◌∷◌}
use Prim.Native.Nat.{ℕ, suc, ◌+◌, ◌*◌, ◌/◌, ◌%◌, ◌<◌}
use native.Mathlib.Nat.{add-zero}
use native.Mathlib.Omega.{arith}
use lib.Dec.{eqb, lit<}
use borrow.Author.Tests.{eqb-true}
use lib.ListN.{get_or, replicate}
use lib.Bits.{bit_xor, xor_lt, xor_zero_l, xor_zero_r, xor_comm, xor_block, xor_shifted}
use Rattle.std.specs.List.{fold}
use Rattle.cells.specs.Cells.{bytes_of}
use Rattle.cells.proofs.Numbers.{Bytes}
use Rattle.house_check.specs.Check.{bit_step, feed, byte_bits, bits, check}
use Rattle.house_check.specs.Table.{remainders, table_step, table_feed}
use Rattle.house_check.proofs.Window.{feed_lt}
use Rattle.house_check.proofs.Bits.{bits_Bits}
use Rattle.house_check.proofs.Remainder.{byte_exact}
use Rattle.house_check.proofs.Linear.{zip_xor, feed-xor, byte_zeros}
use Rattle.house_check.proofs.Below.{below}

-- ---- every entry

pub entry : (k : ℕ) → k < 256 → get_or remainders k 0 ≡ check (k ∷ [])
unfolding remainders check bits byte_bits feed bit_step
entry k h = eqb-true (get_or remainders k 0) (check (k ∷ [])) (below 256 (λ k. eqb (get_or remainders k 0) (check (k ∷ []))) refl k h)

-- ---- a byte

zeros : ℕ → ℕ
zeros x = feed x (replicate 8 0)

-- the high byte and the low byte, each by itself
zeros_apart : (k t : ℕ) → k < 256 → t < 256 → zeros (k * 256 + t) ≡ bit_xor (zeros (k * 256)) (zeros t)
unfolding zeros zip_xor bits byte_bits
zeros_apart k t hk ht =
    ap (λ (x : ℕ). feed x (replicate 8 0)) (sym (xor_shifted k 8 t ht))
    ∙ feed-xor (replicate 8 0) (replicate 8 0) (k * 256) t refl (omega arith) (omega arith) (bits_Bits (0 ∷ [])) (bits_Bits (0 ∷ []))

high_zeros : (k : ℕ) → k < 256 → zeros (k * 256) ≡ check (k ∷ [])
unfolding zeros check bits
high_zeros k h = ap (λ (x : ℕ). feed x (replicate 8 0)) (sym (xor_zero_l (k * 256))) ∙ byte_zeros 0 k (lit< tt) h

low_zeros : (t : ℕ) → t < 256 → zeros t ≡ t * 256
unfolding zeros byte_bits feed
low_zeros t h = ap (λ (x : ℕ). feed x (replicate 8 0)) (sym (zero_times t)) ∙ byte_exact 0 t [] (lit< tt) h
  where
    zero_times : (t : ℕ) → 0 * 256 + t ≡ t
    zero_times t = omega arith

-- the entry that is looked up
pub looked-up : (r b : ℕ) → r < 65536 → b < 256 → bit_xor (r / 256) b < 256
looked-up r b hr hb = xor_lt 8 (r / 256) b (omega arith) hb

table_step_lem : (r b : ℕ) → r < 65536 → b < 256 → table_step r b ≡ feed r (byte_bits b [])
unfolding table_step zeros
table_step_lem r b hr hb =
    let k : ℕ = bit_xor (r / 256) b in
    let t : ℕ = r % 256 in
    let hk : k < 256 = looked-up r b hr hb in
    let parts : r / 256 * 256 + t ≡ r = omega arith in
    ap (bit_xor (t * 256)) (entry k hk) ∙ xor_comm (t * 256) (check (k ∷ []))
    ∙ sym (ap₂ bit_xor (high_zeros k hk) (low_zeros t (omega arith)))
    ∙ sym (zeros_apart k t hk (omega arith))
    ∙ ap zeros
    (ap (λ (x : ℕ). k * 256 + x) (sym (xor_zero_r t))
    ∙ sym (xor_block 8 (r / 256) b t 0 (omega arith) (lit< tt)) ∙ ap₂ bit_xor parts (add-zero (b * 256)))
    ∙ byte_zeros r b hr hb

pub step_lt : (r b : ℕ) → r < 65536 → b < 256 → table_step r b < 65536
unfolding bits
step_lt r b hr hb = subst (λ (x : ℕ). x < 65536) (sym (table_step_lem r b hr hb)) (feed_lt (bits (b ∷ [])) r hr (bits_Bits (b ∷ [])))

-- ---- every length

pub table_feed_lem : (v : List ℕ) (r : ℕ) → Bytes v → r < 65536 → table_feed r v ≡ feed r (bits v)
unfolding table_feed feed bits byte_bits
table_feed_lem [] r hv hr = refl
table_feed_lem (b ∷ v) r hv hr =
    table_feed_lem v (table_step r b) (λ i. hv (suc i)) (step_lt r b hr (hv 0)) ∙ ap (λ (x : ℕ). feed x (bits v)) (table_step_lem r b hr (hv 0))

-- cells one after another by the table
pub table_fed : (t : List ℕ) (r : ℕ) → fold (λ r c. table_step r (c % 256)) r t ≡ table_feed r (bytes_of t)
unfolding table_feed bytes_of
table_fed [] r = refl
table_fed (c ∷ t) r = table_fed t (table_step r (c % 256))

-- the table agrees with the check bit by bit, at every entry and over every number of bytes
pub record TableAgrees : Type 0 where
  pub entries : (k : ℕ) → k < 256 → get_or remainders k 0 ≡ check (k ∷ [])
  pub lengths : (v : List ℕ) → Bytes v → table_feed 0 v ≡ check v

pub table_agrees : TableAgrees
unfolding check
table_agrees = record {
  entries = entry;
  lengths = λ v h. table_feed_lem v 0 h (lit< tt);
}
