-- What passes the refusals is legal, and what is legal passes them.
use Prim.Native.Nat.{ℕ}
use mathlib.Core.Path.{◌≡◌, refl, sym, ◌∙◌}
use mathlib.Core.Bool.{Bool, true, false}
use mathlib.Core.List.{List}
use native.Mathlib.Omega.{arith}
use lib.ListN.{length}
use lib.Dec.{leb}
use borrow.Author.Tests.{leb-true, eqb-true}
use Rattle.cells.specs.Cells.{pick}
use Rattle.cells.proofs.Tests.{first_of, second_of}
use Rattle.pack.specs.declared.{Shape.Shape}
use Rattle.pack.specs.Pack.{most_cylinders, most_heads, from1_to, pack_fits, WholePack}
use Rattle.channel.specs.Channel.{World}
use Rattle.chain.specs.Step.{storage_fits, held_fits, Legal}
use Rattle.host.specs.declared.{Answer.Answer}
use Rattle.host.specs.declared.Answer.TheVariants.{BadStorage, BadPack, BadHeld}
use Rattle.host.specs.Host.{guard_sizes, guard_of, wrong_held, no_refusal}
use Rattle.std.specs.Prelude.{Err, Result}

-- ---- refusal 3

pub fits_whole : (g : Shape) (cells : List ℕ) → pack_fits g (length cells) ≡ true → WholePack g cells
unfolding pack_fits
fits_whole g cells e =
    let f = second_of (from1_to most_cylinders g.cylinders) _ e in
    record {
      cylinders = leb-true _ _ (second_of (leb 1 g.cylinders) _ (first_of (from1_to most_cylinders g.cylinders) _ e));
      heads = leb-true _ _ (second_of (leb 1 g.heads) _ (first_of (from1_to most_heads g.heads) _ f));
      count = eqb-true _ _ (second_of (from1_to most_heads g.heads) _ f);
    }

-- ---- refusals 2 and 3

differs : (a : Answer) → Err a ≡ no_refusal → ⊥
differs a e = let z : ◌≡◌ {A = ℕ} 0 1 = cc in omega arith

-- what the two tests say, refused or passed
sizes_refused : (a b c : Bool) (r : Answer) → pick a (pick b no_refusal (Err BadPack)) (Err BadStorage) ≡ Err r
    → Err r ≡ pick a (pick b (pick c no_refusal (Err BadHeld)) (Err BadPack)) (Err BadStorage)
sizes_refused true true c r e = absurd (differs r (sym e))
sizes_refused true false c r e = sym e
sizes_refused false b c r e = sym e

sizes_passed : (a b : Bool) → pick a (pick b no_refusal (Err BadPack)) (Err BadStorage) ≡ no_refusal → (a ≡ true) × (b ≡ true)
sizes_passed true true e = (refl, refl)
sizes_passed true false e = absurd (differs BadPack e)
sizes_passed false b e = absurd (differs BadStorage e)

module _ (g : Shape) (s c : ℕ) (x : Result (Unit {0}) Answer) (p : x ≡ guard_sizes g s c) where
  pub sizes_pass : x ≡ no_refusal → (storage_fits s ≡ true) × (pack_fits g c ≡ true)
  unfolding guard_sizes
  sizes_pass e = sizes_passed (storage_fits s) (pack_fits g c) (sym p ∙ e)

  pub wrong_passes : x ≡ no_refusal → BadHeld ≡ wrong_held g s c
  unfolding wrong_held
  wrong_passes e = let t = sizes_pass e in λ i. pick (sym t.0 i) (pick (sym t.1 i) BadHeld BadPack) BadStorage

  pub wrong_refused : (r : Answer) → x ≡ Err r → r ≡ wrong_held g s c
  unfolding guard_sizes wrong_held
  wrong_refused r e = by (storage_fits s) (pack_fits g c) (sym p ∙ e)
    where
      by : (a b : Bool) → pick a (pick b no_refusal (Err BadPack)) (Err BadStorage) ≡ Err r → r ≡ pick a (pick b BadHeld BadPack) BadStorage
      by true true e = absurd (differs r (sym e))
      by true false e = cc
      by false b e = cc

-- ---- all of them

module _ (g : Shape) (w : World) where
  pub guard_refused : (x : Result (Unit {0}) Answer) → x ≡ guard_sizes g (length w.storage) (length w.cells) → (r : Answer) → x ≡ Err r → Err r ≡ guard_of g w
  unfolding guard_sizes guard_of
  guard_refused x p r e = sizes_refused (storage_fits (length w.storage)) (pack_fits g (length w.cells)) (held_fits g w) r (sym p ∙ e)

  module _ (x : Result (Unit {0}) Answer) (p : x ≡ guard_sizes g (length w.storage) (length w.cells)) (e : x ≡ no_refusal) (b : Bool) (q : b ≡ held_fits g w) where
    by_held : (y : Bool) → held_fits g w ≡ y → pick y no_refusal (Err BadHeld) ≡ guard_of g w
    unfolding guard_of
    by_held y r =
        let t = sizes_pass g (length w.storage) (length w.cells) x p e in
        λ i. pick (sym t.0 i) (pick (sym t.1 i) (pick (sym r i) no_refusal (Err BadHeld)) (Err BadPack)) (Err BadStorage)

    pub guard_bad : b ≡ false → Err BadHeld ≡ guard_of g w
    guard_bad f = by_held false (sym q ∙ f)

    pub guard_good : b ≡ true → no_refusal ≡ guard_of g w
    guard_good f = by_held true (sym q ∙ f)

  -- what the tests say where they pass, one after another
  by : (a b c : Bool) → pick a (pick b (pick c no_refusal (Err BadHeld)) (Err BadPack)) (Err BadStorage) ≡ no_refusal → (a ≡ true) × (b ≡ true) × (c ≡ true)
  by true true true e = (refl, refl, refl)
  by true true false e = absurd (differs BadHeld e)
  by true false c e = absurd (differs BadPack e)
  by false b c e = absurd (differs BadStorage e)

  pub passes_legal : guard_of g w ≡ no_refusal → Legal g w
  unfolding guard_of storage_fits held_fits
  passes_legal e =
      let t = by (storage_fits (length w.storage)) (pack_fits g (length w.cells)) (held_fits g w) e in
      record {
        whole = fits_whole g w.cells t.1;
        room = leb-true _ _ (first_of (leb 80 (length w.storage)) _ t.0);
        held = t.2;
      }

  pub legal_passes : Legal g w → storage_fits (length w.storage) ≡ true → pack_fits g (length w.cells) ≡ true → guard_of g w ≡ no_refusal
  unfolding guard_of held_fits
  legal_passes L p q =
      λ i. pick (p i) (pick (q i) (pick (L.held i) no_refusal (Err BadHeld)) (Err BadPack)) (Err BadStorage)

  pub passes_sizes : guard_of g w ≡ no_refusal → (storage_fits (length w.storage) ≡ true) × (pack_fits g (length w.cells) ≡ true)
  unfolding guard_of
  passes_sizes e = let t = by (storage_fits (length w.storage)) (pack_fits g (length w.cells)) (held_fits g w) e in (t.0, t.1)
