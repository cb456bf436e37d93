-- A new record is a record, and can be read back. Why: its cells are three areas laid one after another, each with its check, and its
-- count says how long the key and the data are.
use Prim.Native.Nat.{ℕ, zero, suc, ◌+◌, ◌<◌, max}
use mathlib.Core.Path.{◌≡◌, ap, ◌∙◌, subst}
use mathlib.Core.List.{List, [], ◌∷◌, ◌++◌}
use native.Mathlib.Omega.{arith}
use lib.ListN.{length}
use lib.Dec.{eqb}
use borrow.Author.Tests.{ne_eqb}
use Rattle.cells.specs.Cells.{part, padded}
use Rattle.cells.proofs.Laws.{length-padded}
use Rattle.cells.proofs.Numbers.{Bytes, part_bytes}
use Rattle.cells.proofs.Tests.{second_picked}
use Rattle.house_check.specs.Check.{cells_with_check}
use Rattle.house_check.proofs.Cells.{length_laid}
use Rattle.areas.specs.declared.{Counts.Counts}
use Rattle.areas.specs.Areas.{count_area, counts_of, counts_at, key_area, data_area, data_bytes, area_bytes}
use Rattle.recording.proofs.Laws.{padded-bytes}
use Rattle.format.specs.Format.{new_counts, new_key, new_data, new_record}
use Rattle.format.proofs.Laws.{length_key}
use Rattle.sound.specs.Sound.{Record}
use Rattle.claim_track.specs.Lasting.{ReadsAs, NewBack}
use Rattle.claim_track.proofs.Same.{Has, has_front, has_back, has_area, record_by}

-- ---- bytes

pub sent_bytes : (v : List ℕ) (k at n : ℕ) → Bytes v → Bytes (padded k (part v at n))
sent_bytes v k at n b = padded-bytes k (part v at n) (part_bytes v at n b)

-- ---- a new record from cell c on

module _ (flag : ℕ) (v t : List ℕ) (c : ℕ) (f : flag < 256) (b : Bytes v) (H : Has t c (new_record flag v)) where
  abbrev n : Counts
  n = new_counts flag v

  count-bytes : Bytes (flag ∷ padded 8 v)
  count-bytes zero = f
  count-bytes (suc i) = padded-bytes 8 v b i

  long : length (flag ∷ padded 8 v) ≡ 9
  long = ap suc (length-padded 8 v)

  count : ReadsAs t (count_area c) (flag ∷ padded 8 v)
  unfolding new_record
  count = has_area t (count_area c) (flag ∷ padded 8 v) count-bytes long (has_front t c (cells_with_check (flag ∷ padded 8 v)) (new_key n v ++ new_data n v) H)

  counts : counts_at t c ≡ n
  unfolding counts_at new_counts
  counts = ap counts_of count.bytes

  behind : Has t (c + 11) (new_key n v ++ new_data n v)
  unfolding new_record
  behind =
      let e : length (cells_with_check (flag ∷ padded 8 v)) ≡ 11 = length_laid (flag ∷ padded 8 v) ∙ ap (λ (k : ℕ). k + 2) long in
      subst (λ (k : ℕ). Has t (c + k) (new_key n v ++ new_data n v)) e
      (has_back t c (cells_with_check (flag ∷ padded 8 v)) (new_key n v ++ new_data n v) H)

  key : (n.kl ≡ 0 → ⊥) → ReadsAs t (key_area c n) (padded n.kl (part v 8 n.kl))
  unfolding new_key key_area
  key z =
      let w : List ℕ = padded n.kl (part v 8 n.kl) in
      let e : new_key n v ≡ cells_with_check w = second_picked (eqb n.kl 0) [] (cells_with_check w) (ne_eqb n.kl 0 z) in
      has_area t (key_area c n) w (sent_bytes v n.kl 8 n.kl b) (length-padded n.kl (part v 8 n.kl))
      (subst (Has t (c + 11)) e (has_front t (c + 11) (new_key n v) (new_data n v) behind))

  body : ReadsAs t (data_area c n) (padded (data_bytes n) (part v (8 + n.kl) n.dl))
  unfolding new_data data_area
  body =
      let w : List ℕ = part v (8 + n.kl) n.dl in
      has_area t (data_area c n) (padded (data_bytes n) w) (sent_bytes v (data_bytes n) (8 + n.kl) n.dl b) (length-padded (data_bytes n) w)
      (subst (λ (k : ℕ). Has t (c + 11 + k) (new_data n v)) (length_key n v) (has_back t (c + 11) (new_key n v) (new_data n v) behind))

  -- no data: one zero byte
  empty : n.dl ≡ 0 → area_bytes t (data_area c n) ≡ 0 ∷ []
  unfolding padded part
  empty z = body.bytes ∙ ap (λ (d : ℕ). padded (max 1 d) (part v (8 + n.kl) d)) z

  pub new-back : NewBack flag v t c
  new-back = record { count = count; counts = counts; key = λ h. key (λ z. omega arith); body = body }

  pub new_record_lem : Record t c
  new_record_lem = record_by t c n counts count.reads (λ z. (key z).reads) body.reads empty
