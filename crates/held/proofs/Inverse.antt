-- Held states and their 64 bytes are inverse. A number is its high part times 256 and its low byte, so what is taken apart is put together
-- again; bytes below 256 are taken apart again as they were. The flags, the selection and the zeros are pinned by the tests of the bytes.
use Prim.Native.Nat.{ℕ, zero, suc, ◌+◌, ◌*◌, ◌/◌, ◌%◌, ◌^◌, ◌<◌, ◌≤◌}
use mathlib.Core.Path.{◌≡◌, refl, sym, ap, ap₂, ◌∙◌, subst}
use mathlib.Core.Bool.{Bool, true, false, false≢true}
use mathlib.Core.List.{List, [], ◌∷◌, ◌++◌}
use native.Mathlib.Omega.{arith}
use lib.ListN.{length, get_or, drop, replicate, length-drop}
use lib.Seq.{drop-cons}
use lib.Dec.{ltb, eqb, lit<}
use borrow.Author.Tests.{eqb-true, ltb-true}
use Rattle.cells.specs.Cells.{pick, both, be16}
use Rattle.cells.proofs.Numbers.{Bytes}
use Rattle.hunt.specs.declared.Spot.TheVariants.{R0, Marker}
use Rattle.held.specs.declared.{Held.Held}
use Rattle.held.specs.Held.{fresh, fresh_position, fresh_orders, fresh_channel, held_bytes, layout, bit, selection_no, selection_cell, encoded, InRange, is_bit, all_zero, is_set, cell_fits, flags_fit, selection_encoded, encodes, selection_in, decoded, kept}
use Rattle.std.specs.Prelude.{None, Some, Option}
use Rattle.hunt.specs.declared.{Spot.Spot}

-- ---- numbers taken apart and put together

two_back : (n : ℕ) → n / 256 * 256 + n % 256 ≡ n
two_back n = omega arith

four-back : (n : ℕ) → n / 16777216 * 16777216 + (n / 65536 % 256 * 65536 + n / 256 % 256 * 256 + n % 256) ≡ n
four-back n = omega arith

set-bit : (b : Bool) → is_set (bit b) ≡ b
set-bit true = refl
set-bit false = refl

-- the selection's byte and its cell
unfoldable said : ℕ → ℕ → Option Spot
said n cell = pick (eqb n 0) None (pick (eqb n 1) (Some R0) (Some (Marker cell)))

said_back : (s : Option Spot) → said (selection_no s) (selection_cell s / 256 * 256 + selection_cell s % 256) ≡ s
unfolding said
said_back None = refl
said_back (Some R0) = refl
said_back (Some (Marker p)) = ap (λ (n : ℕ). Some (Marker n)) (two_back p)

-- ---- a state's bytes say that state

pub length-encoded : (h : Held) → length (encoded h) ≡ held_bytes
unfolding encoded
length-encoded h = refl

is_bit_lem : (b : Bool) → is_bit (bit b) ≡ true
is_bit_lem true = refl
is_bit_lem false = refl

selection_fits_lem : (s : Option Spot)
    → both (both (ltb (selection_no s) 3) (pick (eqb (selection_no s) 2) true (eqb (selection_cell s / 256 * 256 + selection_cell s % 256) 0))) true ≡ true
selection_fits_lem None = refl
selection_fits_lem (Some R0) = refl
selection_fits_lem (Some (Marker p)) = refl

pub encodes-encoded : (h : Held) → encodes (encoded h) ≡ true
unfolding encodes flags_fit selection_encoded encoded all_zero
encodes-encoded h = simp is_bit_lem (selection_fits_lem h.orders.selection)

pub decoded-encoded : (h : Held) → decoded (encoded h) ≡ h
unfolding decoded encoded selection_in said
decoded-encoded h = λ i. record {
  position = record {
    cylinder = record { 0 = two_back h.position.cylinder.0 i };
    head = record { 0 = two_back h.position.head.0 i };
    place = two_back h.position.place i;
    sense = h.position.sense;
  };
  orders = record {
    mask = h.orders.mask;
    mask_set = set-bit h.orders.mask_set i;
    before = h.orders.before;
    whole = set-bit h.orders.whole i;
    tally = h.orders.tally;
    selection = said_back h.orders.selection i;
  };
  channel = record {
    going = set-bit h.channel.going i;
    key = h.channel.key;
    next = four-back h.channel.next i;
    after_tic = set-bit h.channel.after_tic i;
  };
}

pub kept-encoded : (h : Held) → kept (encoded h) ≡ Some h
unfolding kept
kept-encoded h =
    ap (λ (b : Bool). pick b (Some (decoded (encoded h))) None) (encodes-encoded h) ∙ ap Some (decoded-encoded h)

-- the fresh box's bytes: the layout's number, and zeros
pub fresh-bytes : encoded fresh
    ≡ 0 ∷ 0 ∷ 0 ∷ 0 ∷ 0 ∷ 0 ∷ 0 ∷ 0 ∷ 0 ∷ 0 ∷ 0 ∷ 1 ∷ 0 ∷ 0 ∷ 0 ∷ 0
    ∷ 0 ∷ 0 ∷ 0 ∷ 0 ∷ 0 ∷ 0 ∷ 0 ∷ 0 ∷ 0 ∷ 0 ∷ 0 ∷ 0 ∷ 0 ∷ 0 ∷ 0 ∷ 0
    ∷ 0 ∷ 0 ∷ 0 ∷ 0 ∷ 0 ∷ 0 ∷ 0 ∷ 0 ∷ 0 ∷ 0 ∷ 0 ∷ 0 ∷ 0 ∷ 0 ∷ 0 ∷ 0
    ∷ 0 ∷ 0 ∷ 0 ∷ 0 ∷ 0 ∷ 0 ∷ 0 ∷ 0 ∷ 0 ∷ 0 ∷ 0 ∷ 0 ∷ 0 ∷ 0 ∷ 0 ∷ 0 ∷ []
unfolding encoded fresh fresh_position fresh_orders fresh_channel
fresh-bytes = refl

-- ---- the bytes of a state in range are bytes

infixr 60 ◌&◌
data AllBytes : List ℕ → Type 0 where
  none : AllBytes []
  ◌&◌ : {b : ℕ} {v : List ℕ} → b < 256 → AllBytes v → AllBytes (b ∷ v)

bytes_are : {v : List ℕ} → AllBytes v → Bytes v
bytes_are none i = lit< tt
bytes_are (h & a) zero = h
bytes_are (h & a) (suc i) = bytes_are a i

zero-bytes : (n : ℕ) → AllBytes (replicate n 0)
zero-bytes zero = none
zero-bytes (suc n) = lit< tt & zero-bytes n

bit_byte : (b : Bool) → bit b < 256
bit_byte true = lit< tt
bit_byte false = lit< tt

no_byte : (s : Option Spot) → selection_no s < 256
no_byte None = lit< tt
no_byte (Some R0) = lit< tt
no_byte (Some (Marker p)) = lit< tt

high_byte : (n : ℕ) → n < 65536 → n / 256 < 256
high_byte n h = omega arith

low_byte : (n : ℕ) → n % 256 < 256
low_byte n = omega arith

top_byte : (n : ℕ) → n < 2 ^ 32 → n / 16777216 < 256
top_byte n h = omega arith

pub encoded-bytes : (h : Held) → InRange h → Bytes (encoded h)
unfolding encoded
encoded-bytes h r =
    let n = h.channel.next in
    bytes_are
    (bit_byte h.channel.going
    & r.key
    & r.mask
    & bit_byte h.orders.mask_set
    & r.byte0
    & r.byte1
    & bit_byte h.channel.after_tic
    & r.before
    & bit_byte h.orders.whole
    & r.tally
    & no_byte h.orders.selection
    & lit< tt
    & high_byte (selection_cell h.orders.selection) r.cell
    & low_byte (selection_cell h.orders.selection)
    & high_byte h.position.cylinder.0 r.cylinder
    & low_byte h.position.cylinder.0
    & high_byte h.position.head.0 r.head
    & low_byte h.position.head.0
    & high_byte h.position.place r.place
    & low_byte h.position.place
    & top_byte n r.next
    & low_byte (n / 65536)
    & low_byte (n / 256)
    & low_byte n
    & zero-bytes 40)

-- ---- bytes that say a state are that state's bytes

-- the first n elements from an index on, one by one
abbrev opened : ℕ → ℕ → List ℕ → List ℕ
opened zero i v = []
opened (suc n) i v = get_or v i 0 ∷ opened n (suc i) v

opens : (n i : ℕ) (v : List ℕ) → i + n ≤ length v → drop i v ≡ opened n i v ++ drop (i + n) v
opens zero i v h = ap (λ (k : ℕ). drop k v) {x = i} {y = i + 0} (omega arith)
opens (suc n) i v h =
    drop-cons v i 0 (omega arith) ∙ ap (λ (w : List ℕ). get_or v i 0 ∷ w)
    (opens n (suc i) v (omega arith) ∙ ap (λ (k : ℕ). opened n (suc i) v ++ drop k v) {x = suc i + n} {y = i + suc n} (omega arith))

high_of : (a b : ℕ) → b < 256 → (a * 256 + b) / 256 ≡ a
high_of a b h = omega arith

low_of : (a b : ℕ) → b < 256 → (a * 256 + b) % 256 ≡ b
low_of a b h = omega arith

module _ (a b c d : ℕ) (hb : b < 256) (hc : c < 256) (hd : d < 256) where
  byte_0 : (a * 16777216 + (b * 65536 + c * 256 + d)) / 16777216 ≡ a
  byte_0 = omega arith

  byte_1 : (a * 16777216 + (b * 65536 + c * 256 + d)) / 65536 % 256 ≡ b
  byte_1 = omega arith

  byte_2 : (a * 16777216 + (b * 65536 + c * 256 + d)) / 256 % 256 ≡ c
  byte_2 = omega arith

  byte_3 : (a * 16777216 + (b * 65536 + c * 256 + d)) % 256 ≡ d
  byte_3 = omega arith

bit-set : (b : ℕ) → is_bit b ≡ true → bit (is_set b) ≡ b
bit-set zero h = refl
bit-set (suc zero) h = refl
bit-set (suc (suc b)) h = absurd (omega (arith, ltb-true (suc (suc b)) 2 h))

-- two tests that both pass
each : (a b : Bool) → both a b ≡ true → (a ≡ true) × (b ≡ true)
each true b e = (refl, e)
each false b e = absurd (false≢true e)

zeros : (v : List ℕ) → all_zero v ≡ true → replicate (length v) 0 ≡ v
unfolding all_zero
zeros [] h = refl
zeros (b ∷ v) h =
    let e = each (eqb b 0) _ h in
    ap₂ (λ (x : ℕ) (w : List ℕ). x ∷ w) (sym (eqb-true b 0 e.0)) (zeros v e.1)

-- a selection's byte and cell
no_back : (n cell : ℕ) → ltb n 3 ≡ true → selection_no (said n cell) ≡ n
unfolding said
no_back zero cell h = refl
no_back (suc zero) cell h = refl
no_back (suc (suc zero)) cell h = refl
no_back (suc (suc (suc n))) cell h = absurd (omega (arith, ltb-true (suc (suc (suc n))) 3 h))

cell_back : (n cell : ℕ) → ltb n 3 ≡ true → pick (eqb n 2) true (eqb cell 0) ≡ true → selection_cell (said n cell) ≡ cell
unfolding said
cell_back zero cell h e = sym (eqb-true cell 0 e)
cell_back (suc zero) cell h e = sym (eqb-true cell 0 e)
cell_back (suc (suc zero)) cell h e = refl
cell_back (suc (suc (suc n))) cell h e = absurd (omega (arith, ltb-true (suc (suc (suc n))) 3 h))

-- what the tests of the bytes say
record Right (v : List ℕ) : Type 0 where
  long : length v ≡ held_bytes
  numbered : get_or v 11 0 ≡ layout
  bit0 : is_bit (get_or v 0 0) ≡ true
  bit3 : is_bit (get_or v 3 0) ≡ true
  bit6 : is_bit (get_or v 6 0) ≡ true
  bit8 : is_bit (get_or v 8 0) ≡ true
  selects : ltb (get_or v 10 0) 3 ≡ true
  cell : cell_fits v ≡ true
  rest : all_zero (drop 24 v) ≡ true

right : (v : List ℕ) → encodes v ≡ true → Right v
unfolding encodes flags_fit selection_encoded
right v e =
    let a = each (eqb (length v) held_bytes) _ e in
    let b = each (eqb (get_or v 11 0) layout) _ a.1 in
    let f = each (flags_fit v) _ b.1 in
    let s = each (selection_encoded v) _ f.1 in
    let c = each (is_bit (get_or v 0 0)) _ f.0 in
    let d = each (is_bit (get_or v 3 0)) _ c.1 in
    let g = each (is_bit (get_or v 6 0)) _ d.1 in
    let n = each (ltb (get_or v 10 0) 3) _ s.0 in
    record {
      long = eqb-true (length v) held_bytes a.0;
      numbered = eqb-true (get_or v 11 0) layout b.0;
      bit0 = c.0;
      bit3 = d.0;
      bit6 = g.0;
      bit8 = g.1;
      selects = n.0;
      cell = n.1;
      rest = s.1;
    }

pub encoded-decoded : (v : List ℕ) → Bytes v → encodes v ≡ true → encoded (decoded v) ≡ v
unfolding encoded decoded selection_in said
encoded-decoded v b e =
    let r = right v e in
    let g : ℕ → ℕ = λ i. get_or v i 0 in
    let cell = cell_back (g 10) (be16 v 12) r.selects r.cell in
    let rest : replicate 40 0 ≡ drop 24 v =
    ap (λ (n : ℕ). replicate n 0) {x = 40} {y = length (drop 24 v)} (omega (arith, length-drop 24 v, r.long)) ∙ zeros (drop 24 v) r.rest in
    let made : encoded (decoded v) ≡ opened 24 0 v ++ drop 24 v = λ i.
    bit-set (g 0) r.bit0 i
    ∷ g 1
    ∷ g 2
    ∷ bit-set (g 3) r.bit3 i
    ∷ g 4
    ∷ g 5
    ∷ bit-set (g 6) r.bit6 i
    ∷ g 7
    ∷ bit-set (g 8) r.bit8 i
    ∷ g 9
    ∷ no_back (g 10) (be16 v 12) r.selects i
    ∷ sym r.numbered i
    ∷ (ap (λ (n : ℕ). n / 256) cell ∙ high_of (g 12) (g 13) (b 13)) i
    ∷ (ap (λ (n : ℕ). n % 256) cell ∙ low_of (g 12) (g 13) (b 13)) i
    ∷ high_of (g 14) (g 15) (b 15) i
    ∷ low_of (g 14) (g 15) (b 15) i
    ∷ high_of (g 16) (g 17) (b 17) i
    ∷ low_of (g 16) (g 17) (b 17) i
    ∷ high_of (g 18) (g 19) (b 19) i
    ∷ low_of (g 18) (g 19) (b 19) i
    ∷ byte_0 (g 20) (g 21) (g 22) (g 23) (b 21) (b 22) (b 23) i
    ∷ byte_1 (g 20) (g 21) (g 22) (g 23) (b 21) (b 22) (b 23) i
    ∷ byte_2 (g 20) (g 21) (g 22) (g 23) (b 21) (b 22) (b 23) i
    ∷ byte_3 (g 20) (g 21) (g 22) (g 23) (b 21) (b 22) (b 23) i
    ∷ rest i in
    made ∙ sym (opens 24 0 v (omega (arith, r.long)))

-- bytes that say a state encode it
pub says : (v : List ℕ) (h : Held) (t : Bool) → pick t (Some (decoded v)) None ≡ Some h → (t ≡ true) × (decoded v ≡ h)
says v h true e = (refl, cc)
says v h false e = absurd (let z : ◌≡◌ {A = ℕ} 0 1 = cc in omega arith)

pub encoded-kept : (v : List ℕ) (h : Held) → Bytes v → kept v ≡ Some h → encoded h ≡ v
unfolding kept
encoded-kept v h b e =
    let s = says v h (encodes v) e in
    ap encoded (sym s.1) ∙ encoded-decoded v b s.0

-- and the state that bytes say is in range
pub kept_in_range : (v : List ℕ) (h : Held) → Bytes v → kept v ≡ Some h → InRange h
unfolding kept decoded selection_in said
kept_in_range v h b e =
    let s = says v h (encodes v) e in
    let r = right v s.0 in
    let pair : (i : ℕ) → be16 v i < 65536 = λ i. omega (arith, b i, b (i + 1)) in
    let is : InRange (decoded v) = record {
      key = b 1;
      next = omega (arith, b 20, b 21, b 22, b 23);
      mask = b 2;
      before = b 7;
      tally = b 9;
      cell = rw (cell_back (get_or v 10 0) (be16 v 12) r.selects r.cell) (pair 12);
      byte0 = b 4;
      byte1 = b 5;
      cylinder = pair 14;
      head = pair 16;
      place = pair 18;
    } in
    subst InRange s.1 is
