-- What the code's tests and calls come to, in the model's words.
use Prim.Native.Nat.{ℕ, ◌+◌, ◌-◌, ◌≤◌}
use mathlib.Core.Path.{◌≡◌, refl, sym, ap, ◌∙◌}
use mathlib.Core.Bool.{Bool, true, false, not}
use mathlib.Core.List.{List, [], ◌∷◌}
use native.Mathlib.Omega.{arith}
use lib.ListN.{length, take, drop, set}
use lib.Seq.{sets-eq}
use lib.Dec.{leb}
use borrow.Author.Tests.{lt-leb, le-leb}
use Rattle.cells.specs.Cells.{pick, both, overlay, mark_at, marks}
use Rattle.cells.proofs.Marks.{get_or-marks}
use Rattle.words.specs.declared.{Word.Word, Cause.Cause, Directive.Directive}
use Rattle.words.specs.Words.{along, begun_by, tested}
use Rattle.hunt.specs.declared.{Spot.Spot}
use Rattle.hunt.specs.declared.Spot.TheVariants.{R0, Marker}
use Rattle.pack.specs.declared.{Shape.Shape}
use Rattle.pack.specs.Pack.{start_of, track_at}
use Rattle.pack.proofs.Laws.{lent_is}
use Rattle.table.specs.declared.{Rule.Rule}
use Rattle.table.specs.Table.{rule_of, is_mask}
use Rattle.held.specs.declared.{Orders.Orders, Held.Held}
use Rattle.channel.specs.Channel.{World, world}
use Rattle.chain.specs.Step.{under, track_under, run, position_fits, channel_fits, selection_fits, orders_fit, held_fits}
use Rattle.hunt.specs.Hunt.{spot_fits}
use Rattle.host.specs.declared.{Answer.Answer}
use Rattle.host.specs.declared.Answer.TheVariants.{ChainEnded, AllowanceUsed, NoChain, ChainGoing}
use Rattle.host.specs.Host.{Hears, hears, guard_of, guards, refuses_start, beginning, first_word, begins, starts, ran, goes, no_refusal}
use Rattle.std.specs.Prelude.{Some, None, Ok, Err, Option, Result}
use Rattle.words.specs.declared.Directive.TheVariants.{Obey, Jump}

pub hears_eq : {a b : Answer} {h k : Held} {s t c d : List ℕ} → a ≡ b → h ≡ k → s ≡ t → c ≡ d → hears a (world h s c) ≡ hears b (world k t d)
hears_eq p q r u = λ i. hears (p i) (world (q i) (r i) (u i))

-- ---- the selection

pub spot_r0 : (m : List Bool) (s : Spot) → s ≡ R0 → true ≡ spot_fits m s
unfolding spot_fits
spot_r0 m s e = ap (spot_fits m) (sym e)

pub spot_marker : (t : List ℕ) (s : Spot) (p : ℕ) (b : Bool) → s ≡ Marker p → b ≡ mark_at t p → b ≡ spot_fits (marks t) s
unfolding spot_fits
spot_marker t s p b e q = q ∙ sym (get_or-marks t p) ∙ ap (spot_fits (marks t)) (sym e)

pub none_selected : (m : List Bool) (o : Orders) (x : Option Spot) (r : Rule) → x ≡ None → r ≡ rule_of o.before → not r.selects ≡ selection_fits m o x
unfolding selection_fits
none_selected m o x r e p = ap (λ (y : Rule). not y.selects) p ∙ ap (selection_fits m o) (sym e)

pub some_selected : (m : List Bool) (o : Orders) (x : Option Spot) (s : Spot) (b : Bool) → x ≡ Some s → b ≡ spot_fits m s → b ≡ selection_fits m o x
unfolding selection_fits
some_selected m o x s b e q = q ∙ ap (selection_fits m o) (sym e)

module _ (m : List Bool) (o : Orders) (b : Bool) (e : b ≡ is_mask o.mask) where
  pub bad_mask : b ≡ false → false ≡ orders_fit m o
  unfolding orders_fit
  bad_mask f = ap (λ (x : Bool). both x (both (leb o.tally 1) (selection_fits m o o.selection))) (sym f ∙ e)

  with_tally : (t : Bool) → b ≡ true → leb o.tally 1 ≡ t → both t (selection_fits m o o.selection) ≡ orders_fit m o
  unfolding orders_fit
  with_tally t f h = λ i. both ((sym f ∙ e) i) (both (sym h i) (selection_fits m o o.selection))

  pub bad_tally : b ≡ true → 2 ≤ o.tally → false ≡ orders_fit m o
  bad_tally f h = with_tally false f (lt-leb o.tally 1 h)

  pub by_selection : b ≡ true → o.tally ≤ 1 → (x : Bool) → x ≡ selection_fits m o o.selection → x ≡ orders_fit m o
  by_selection f h x q = q ∙ with_tally true f (le-leb o.tally 1 h)

-- ---- refusal 4

module _ (g : Shape) (h : Held) (cells : List ℕ) (b : Bool) (e : b ≡ position_fits g h.position) where
  all : (s : List ℕ) → (x y z : Bool) → position_fits g h.position ≡ x → channel_fits h.channel ≡ y
      → orders_fit (marks (track_at cells (under g h))) h.orders ≡ z → both x (both y z) ≡ held_fits g (world h s cells)
  unfolding held_fits track_under
  all s x y z p q r = λ i. both (sym p i) (both (sym q i) (sym r i))

  pub bad_stands : b ≡ false → (s : List ℕ) → false ≡ held_fits g (world h s cells)
  bad_stands f s = all s false _ _ (sym e ∙ f) refl refl

  pub bad_channel : b ≡ true → (y : Bool) → y ≡ channel_fits h.channel → y ≡ false → (s : List ℕ) → false ≡ held_fits g (world h s cells)
  bad_channel f y p q s = all s true false _ (sym e ∙ f) (sym p ∙ q) refl

  pub by_orders : b ≡ true → (y : Bool) → y ≡ channel_fits h.channel → y ≡ true → (a : ℕ) → a ≡ start_of g h.position.cylinder h.position.head
      → (z : Bool) → z ≡ orders_fit (marks (take (a + 4096 - a) (drop a cells))) h.orders → (s : List ℕ) → z ≡ held_fits g (world h s cells)
  unfolding under
  by_orders f y p q a at z r s =
      all s true true z (sym e ∙ f) (sym p ∙ q)
      (sym (r ∙ ap (λ (t : List ℕ). orders_fit (marks t) h.orders) (lent_is cells a ∙ ap (track_at cells) at)))

-- ---- a start

pub two_bytes : (s : List ℕ) → 80 ≤ length s → set (set s 68 0x00) 69 0x20 ≡ overlay s 68 (0x00 ∷ 0x20 ∷ [])
unfolding overlay
two_bytes s h = sets-eq (0x00 ∷ 0x20 ∷ []) s 68 (omega arith)

module _ (w : World) (x : Hears) where
  pub first_obeyed : (key next : ℕ) (t : Result Directive Cause) (d : Word) → t ≡ Ok (Obey d) → x ≡ hears AllowanceUsed (world (beginning w.held key next) w.storage w.cells)
      → x ≡ first_word w key next t
  unfolding first_word
  first_obeyed key next t d e p = p ∙ ap (first_word w key next) (sym e)

  -- a TIC
  pub first_other : (key next : ℕ) (t : Result Directive Cause) (d : Directive) → t ≡ Ok d → ((v : Word) → d ≡ Obey v → ⊥) → x ≡ refuses_start w
      → x ≡ first_word w key next t
  unfolding first_word
  first_other key next t (Obey v) e n p = absurd (n v refl)
  first_other key next t (Jump a) e n p = p ∙ ap (first_word w key next) (sym e)

  pub first_bad : (key next : ℕ) (t : Result Directive Cause) (cause : Cause) → t ≡ Err cause → x ≡ refuses_start w → x ≡ first_word w key next t
  unfolding first_word
  first_bad key next t cause e p = p ∙ ap (first_word w key next) (sym e)

  pub begins_refused : (b : Option (ℕ × ℕ)) → b ≡ None → x ≡ refuses_start w → x ≡ begins w b
  unfolding begins
  begins_refused b e p = p ∙ ap (begins w) (sym e)

  pub begins_first : (b : Option (ℕ × ℕ)) (key first n : ℕ) → b ≡ Some (key, first) → n ≡ along first 0 → x ≡ first_word w key n (tested w.storage n false) → x ≡ begins w b
  unfolding begins
  begins_first b key first n e q p = p ∙ ap (λ (k : ℕ). first_word w key k (tested w.storage k false)) q ∙ ap (begins w) (sym e)

-- ---- what start and go tell, by the guard

module _ (g : Shape) (w : World) (v : Result (Unit {0}) Answer) (p : v ≡ guard_of g w) where
  pub start_refused : (a : Answer) → v ≡ Err a → hears a w ≡ starts g w
  unfolding starts guards
  start_refused a e = ap (λ (x : Result (Unit {0}) Answer). guards x w (pick w.held.channel.going (hears ChainGoing w) (begins w (begun_by w.storage)))) (sym e ∙ p)

  start-passed : (b : Bool) → v ≡ no_refusal → w.held.channel.going ≡ b → pick b (hears ChainGoing w) (begins w (begun_by w.storage)) ≡ starts g w
  unfolding starts guards
  start-passed b e q = λ i. guards ((sym e ∙ p) i) w (pick (sym q i) (hears ChainGoing w) (begins w (begun_by w.storage)))

  pub start_going : v ≡ no_refusal → w.held.channel.going ≡ true → hears ChainGoing w ≡ starts g w
  start_going e q = start-passed true e q

  pub start-begins : v ≡ no_refusal → w.held.channel.going ≡ false → (x : Hears) → x ≡ begins w (begun_by w.storage) → x ≡ starts g w
  start-begins e q x r = r ∙ start-passed false e q

  pub go_refused : (n : ℕ) (a : Answer) → v ≡ Err a → hears a w ≡ goes g n w
  unfolding goes guards
  go_refused n a e = ap (λ (x : Result (Unit {0}) Answer). guards x w (pick w.held.channel.going (ran (run g n w)) (hears NoChain w))) (sym e ∙ p)

  go_passed : (n : ℕ) (b : Bool) → v ≡ no_refusal → w.held.channel.going ≡ b → pick b (ran (run g n w)) (hears NoChain w) ≡ goes g n w
  unfolding goes guards
  go_passed n b e q = λ i. guards ((sym e ∙ p) i) w (pick (sym q i) (ran (run g n w)) (hears NoChain w))

  pub go_idle : (n : ℕ) → v ≡ no_refusal → w.held.channel.going ≡ false → hears NoChain w ≡ goes g n w
  go_idle n e q = go_passed n false e q

  pub go_runs : (n : ℕ) → v ≡ no_refusal → w.held.channel.going ≡ true → (h k : Held) (a : Answer) (s c : List ℕ) → world h s c ≡ run g n w
      → a ≡ pick h.channel.going AllowanceUsed ChainEnded → k ≡ h → hears a (world k s c) ≡ goes g n w
  unfolding ran
  go_runs n e q h k a s c r t u = hears_eq t u refl refl ∙ ap ran r ∙ go_passed n true e q
