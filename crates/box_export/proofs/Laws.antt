-- What the code's calls come to, in the model's words, and that a refusal leaves every byte as it was.
use Prim.Native.Nat.{ℕ}
use mathlib.Core.Path.{◌≡◌, refl, sym, ap, ◌∙◌}
use mathlib.Core.Bool.{Bool}
use mathlib.Core.List.{List}
use lib.ListN.{length}
use lib.Dec.{eqb}
use borrow.Author.Tests.{eq-eqb, eqb-true}
use Rattle.cells.proofs.Tests.{first_of}
use Rattle.cells.specs.Cells.{pick}
use Rattle.pack.specs.declared.{Shape.Shape}
use Rattle.held.specs.declared.{Held.Held}
use Rattle.held.specs.Held.{held_bytes, encoded, encodes, kept, bit}
use Rattle.held.proofs.Inverse.{says}
use Rattle.channel.specs.Channel.{world}
use Rattle.host.specs.declared.{Answer.Answer}
use Rattle.host.specs.Host.{Hears, hears, answer_no, wrong_held, starts, goes}
use Rattle.box_export.specs.Calls.{call, call_of, start_kept, start_call, go_kept, go_call}
use Rattle.std.specs.Prelude.{Some, None, Option}

call_eq : {a b : ℕ} {v w s t c d : List ℕ} → a ≡ b → v ≡ w → s ≡ t → c ≡ d → call a v s c ≡ call b w t d
call_eq p q r u = λ i. record { answer = p i; held = q i; storage = r i; cells = u i }

-- bytes that say a state are of the right number
pub kept_long : (v : List ℕ) (h : Held) → kept v ≡ Some h → length v ≡ held_bytes
unfolding kept encodes
kept_long v h e = eqb-true (length v) held_bytes (first_of (eqb (length v) held_bytes) _ (says v h (encodes v) e).0)

-- the bytes that a call puts back
back : (v w : List ℕ) (h k : Held) → kept v ≡ Some h → w ≡ pick (eqb (length v) held_bytes) (encoded k) v → w ≡ encoded k
back v w h k e p = p ∙ ap (λ (b : Bool). pick b (encoded k) v) (eq-eqb (length v) held_bytes (kept_long v h e))

-- what is heard, put back in bytes
telling : (x : Hears) (a : Answer) (n : ℕ) (k : Held) (v w s c : List ℕ) (h : Held) → hears a (world k s c) ≡ x → n ≡ answer_no a → kept v ≡ Some h
    → w ≡ pick (eqb (length v) held_bytes) (encoded k) v → call n w s c ≡ call_of x
unfolding call_of
telling x a n k v w s c h p q e r =
    call_eq (q ∙ ap (λ (y : Hears). answer_no y.answer) p) (back v w h k e r ∙ ap (λ (y : Hears). encoded y.left.held) p)
    (ap (λ (y : Hears). y.left.storage) p) (ap (λ (y : Hears). y.left.cells) p)

module _ (g : Shape) (v s c : List ℕ) (x : Option Held) (e : x ≡ kept v) where
  module _ (h : Held) (f : x ≡ Some h) where
    pub start_told : (a : Answer) (n : ℕ) (k : Held) (w u d : List ℕ) → hears a (world k u d) ≡ starts g (world h s c) → n ≡ answer_no a
        → w ≡ pick (eqb (length v) held_bytes) (encoded k) v → call n w u d ≡ start_call g v s c
    unfolding start_call start_kept
    start_told a n k w u d p q r = telling _ a n k v w u d h p q (sym e ∙ f) r ∙ ap (start_kept g v s c) (sym f ∙ e)

    pub go_told : (m : ℕ) (a : Answer) (n : ℕ) (k : Held) (w u d : List ℕ) → hears a (world k u d) ≡ goes g m (world h s c) → n ≡ answer_no a
        → w ≡ pick (eqb (length v) held_bytes) (encoded k) v → call n w u d ≡ go_call g m v s c
    unfolding go_call go_kept
    go_told m a n k w u d p q r = telling _ a n k v w u d h p q (sym e ∙ f) r ∙ ap (go_kept g m v s c) (sym f ∙ e)

  module _ (f : x ≡ None) (n : ℕ) (q : n ≡ answer_no (wrong_held g (length s) (length c))) where
    pub start_wrong : call n v s c ≡ start_call g v s c
    unfolding start_call start_kept
    start_wrong = call_eq q refl refl refl ∙ ap (start_kept g v s c) (sym f ∙ e)

    pub go_wrong : (m : ℕ) → call n v s c ≡ go_call g m v s c
    unfolding go_call go_kept
    go_wrong m = call_eq q refl refl refl ∙ ap (go_kept g m v s c) (sym f ∙ e)

-- ---- the fresh box

pub fresh_written : (v w : List ℕ) (h k : Held) (b : Bool) (n : ℕ) → h ≡ k → b ≡ eqb (length v) held_bytes → w ≡ pick (eqb (length v) held_bytes) (encoded h) v → n ≡ bit b
    → (n ≡ bit (eqb (length v) held_bytes)) × (w ≡ pick (eqb (length v) held_bytes) (encoded k) v)
fresh_written v w h k b n p q r e = (e ∙ ap bit q, r ∙ ap (λ (x : Held). pick (eqb (length v) held_bytes) (encoded x) v) p)
