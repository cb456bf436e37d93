-- Each byte is made as the model has it.
use Prim.Native.Nat.{ℕ, ◌/◌, ◌%◌, ◌^◌, ◌<◌}
use mathlib.Core.Path.{◌≡◌, ap, ◌∙◌}
use mathlib.Core.Bool.{Bool, true, false}
use mathlib.Core.List.{List, [], ◌∷◌}
use native.Mathlib.Omega.{arith}
use lib.ListN.{get_or}
use Rattle.std.specs.Int.{w16, w32, to_be_bytes, from_bool}
use Rattle.cells.specs.Cells.{part}
use Rattle.held.specs.Held.{layout, bit, encoded}
use Rattle.held.proofs.first_bytes.Goals as goal

flag : (b : Bool) (n : ℕ) → n ≡ from_bool b → n ≡ bit b
flag true n e = e
flag false n e = e

high : (n : ℕ) (v : List ℕ) → n < 65536 → v ≡ to_be_bytes w16 n → get_or v 0 0 ≡ n / 256
high n v h e = ap (λ (l : List ℕ). get_or l 0 0) e ∙ omega arith

low : (n : ℕ) (v : List ℕ) → v ≡ to_be_bytes w16 n → get_or v 1 0 ≡ n % 256
low n v e = ap (λ (l : List ℕ). get_or l 1 0) e

top : (n : ℕ) (v : List ℕ) → n < 2 ^ 32 → v ≡ to_be_bytes w32 n → get_or v 0 0 ≡ n / 16777216
top n v h e = ap (λ (l : List ℕ). get_or l 0 0) e ∙ omega arith

pub returns : goal.returns
unfolding part encoded
returns c =
    let h = c.args.h in
    let said = c.selection_parts-selection.ensures in
    let cell = c.selection_parts-selection.result.1 in
    let next = h.channel.next in
    λ i. flag _ _ c.from.ensures i ∷ h.channel.key ∷ h.orders.mask ∷ flag _ _ c.from-2.ensures i ∷ h.position.sense.byte0 ∷ h.position.sense.byte1
    ∷ flag _ _ c.from-3.ensures i ∷ h.orders.before ∷ flag _ _ c.from-4.ensures i ∷ h.orders.tally ∷ (said i).0 ∷ layout
    ∷ (high cell _ (omega arith) c.to_be_bytes.ensures ∙ ap (λ (p : ℕ × ℕ). p.1 / 256) said) i
    ∷ (low cell _ c.to_be_bytes.ensures ∙ ap (λ (p : ℕ × ℕ). p.1 % 256) said) i
    ∷ high h.position.cylinder.0 _ (omega arith) c.to_be_bytes-2.ensures i ∷ low h.position.cylinder.0 _ c.to_be_bytes-2.ensures i
    ∷ high h.position.head.0 _ (omega arith) c.to_be_bytes-3.ensures i ∷ low h.position.head.0 _ c.to_be_bytes-3.ensures i
    ∷ high h.position.place _ (omega arith) c.to_be_bytes-4.ensures i ∷ low h.position.place _ c.to_be_bytes-4.ensures i
    ∷ top next _ (omega arith) c.to_be_bytes-5.ensures i
    ∷ get_or (c.to_be_bytes-5.ensures i) 1 0 ∷ get_or (c.to_be_bytes-5.ensures i) 2 0 ∷ get_or (c.to_be_bytes-5.ensures i) 3 0 ∷ []
