-- What a host's call changes: a refusal nothing, a go what its allowance does, a start no cell, and of storage two bytes by answer 5.
use Prim.Native.Nat.{ℕ, ◌+◌, ◌*◌, ◌≤◌}
use mathlib.Core.Path.{◌≡◌, refl, ap, ◌∙◌}
use mathlib.Core.Bool.{Bool, true, false}
use mathlib.Core.List.{List}
use native.Mathlib.Omega.{arith}
use lib.ListN.{length, get_or}
use Rattle.cells.specs.Cells.{pick, track_cells}
use Rattle.cells.proofs.Laws.{length-overlay}
use Rattle.cells.proofs.Tests.{pick_all}
use Rattle.words.specs.Words.{begun_by}
use Rattle.pack.specs.declared.{Shape.Shape}
use Rattle.channel.specs.Channel.{World}
use Rattle.chain.specs.Step.{run, Legal}
use Rattle.host.specs.declared.Answer.TheVariants.{BadStart, NoChain, ChainGoing}
use Rattle.host.specs.Host.{Hears, hears, guard_of, guards, refuses_start, first_word, begins, starts, ran, goes, if_passes, no_refusal}
use Rattle.host.proofs.Laws.{passes_legal}
use Rattle.claim_box.specs.Confined.{among, spares_cell, spares_byte, spares_track, CallConfined}
use Rattle.claim_box.proofs.Outside.{overlay-kept}
use Rattle.claim_box.proofs.Runs.{run_confined}
use Rattle.std.specs.Prelude.{Some, None, Ok, Err, Result, Option}
use Rattle.words.specs.declared.Directive.TheVariants.{Obey, Jump}
use Rattle.host.specs.declared.{Answer.Answer}
use Rattle.words.specs.declared.{Directive.Directive, Cause.Cause}

-- ---- a go

-- what holds of the world as it was, and of what a run of the allowance leaves where a test holds
module _ (g : Shape) (n : ℕ) (w : World) (P : World → Type 0) (was : P w) (test : Bool) (runs : Legal g w → test ≡ true → P (run g n w)) where
  go_by : (x : Result (Unit {0}) Answer) (b : Bool) → guard_of g w ≡ x → if_passes x test ≡ true → P (guards x w (pick b (ran (run g n w)) (hears NoChain w))).left
  unfolding guards if_passes ran
  go_by (Ok tt) true p e = runs (passes_legal g w p) e
  go_by (Ok tt) false p e = was
  go_by (Err a) b p e = was

  go_confined : if_passes (guard_of g w) test ≡ true → P (goes g n w).left
  unfolding goes
  go_confined e = go_by (guard_of g w) w.held.channel.going refl e

-- ---- a start

-- nothing, or answer 5 and two bytes
data Starts (w : World) (x : Hears) : Type 0 where
  alike : x.left.storage ≡ w.storage → x.left.cells ≡ w.cells → Starts w x
  refuses : x ≡ refuses_start w → Starts w x

module _ (w : World) where
  first_starts : (key next : ℕ) (x : Result Directive Cause) → Starts w (first_word w key next x)
  unfolding first_word
  first_starts key next (Ok (Obey d)) = alike refl refl
  first_starts key next (Ok (Jump a)) = refuses refl
  first_starts key next (Err cause) = refuses refl

  begins-starts : (x : Option (ℕ × ℕ)) → Starts w (begins w x)
  unfolding begins
  begins-starts (Some (key, first)) = first_starts key _ _
  begins-starts None = refuses refl

  starts_cells : (x : Hears) → Starts w x → x.left.cells ≡ w.cells
  unfolding refuses_start
  starts_cells x (alike p q) = q
  starts_cells x (refuses e) = ap (λ (y : Hears). y.left.cells) e

  starts_else : (x : Hears) → Starts w x → (x.answer ≡ BadStart → ⊥) → x.left.storage ≡ w.storage
  unfolding refuses_start
  starts_else x (alike p q) h = p
  starts_else x (refuses e) h = absurd (h (ap (λ (y : Hears). y.answer) e))

  starts_storage : 80 ≤ length w.storage → (x : Hears) → Starts w x → (i : ℕ) → among 68 2 i ≡ false
      → get_or x.left.storage i 0 ≡ get_or w.storage i 0
  unfolding refuses_start
  starts_storage room x (alike p q) i h = ap (λ (y : List ℕ). get_or y i 0) p
  starts_storage room x (refuses e) i h = ap (λ (y : Hears). get_or y.left.storage i 0) e ∙ overlay-kept w.storage 68 _ i (omega arith) h

  starts_long : 80 ≤ length w.storage → (x : Hears) → Starts w x → length x.left.storage ≡ length w.storage
  unfolding refuses_start
  starts_long room x (alike p q) = ap length p
  starts_long room x (refuses e) = ap (λ (y : Hears). length y.left.storage) e ∙ length-overlay w.storage 68 _ (omega arith)

module _ (g : Shape) (w : World) where
  abbrev heard : Result (Unit {0}) Answer → Hears
  heard x = guards x w (pick w.held.channel.going (hears ChainGoing w) (begins w (begun_by w.storage)))

  start_by : (x : Result (Unit {0}) Answer) → Starts w (heard x)
  unfolding guards
  start_by (Ok tt) = pick_all (Starts w) w.held.channel.going (alike refl refl) (begins-starts w (begun_by w.storage))
  start_by (Err a) = alike refl refl

  start_storage : (x : Result (Unit {0}) Answer) → guard_of g w ≡ x → (i : ℕ) → among 68 2 i ≡ false → get_or (heard x).left.storage i 0 ≡ get_or w.storage i 0
  unfolding guards
  start_storage (Ok tt) p i h = starts_storage w (passes_legal g w p).room (heard no_refusal) (start_by no_refusal) i h
  start_storage (Err a) p i h = refl

  start_long : (x : Result (Unit {0}) Answer) → guard_of g w ≡ x → length (heard x).left.storage ≡ length w.storage
  unfolding guards
  start_long (Ok tt) p = starts_long w (passes_legal g w p).room (heard no_refusal) (start_by no_refusal)
  start_long (Err a) p = refl

module _ (g : Shape) (n : ℕ) (w : World) where
  SameCell : ℕ → World → Type 0
  SameCell i v = get_or v.cells i 0 ≡ get_or w.cells i 0

  SameByte : ℕ → World → Type 0
  SameByte i v = get_or v.storage i 0 ≡ get_or w.storage i 0

  -- where nothing is asked of the words, nothing has to pass
  asked : (x : Result (Unit {0}) Answer) → if_passes x true ≡ true
  unfolding if_passes
  asked (Ok tt) = refl
  asked (Err a) = refl

  SameCells : World → Type 0
  SameCells v = length v.cells ≡ length w.cells

  SameStorage : World → Type 0
  SameStorage v = length v.storage ≡ length w.storage

  pub call_confined : CallConfined g n w
  unfolding starts SameCell SameByte SameCells SameStorage
  call_confined = record {
    cells = λ i e. go_confined g n w (SameCell i) refl (spares_cell g i n w) (λ L f. (run_confined g n w L).cells i f) e;
    track = λ m i h e. go_confined g n w (SameCell (m * track_cells + i)) refl (spares_track g m n w) (λ L f. (run_confined g n w L).track m i h f) e;
    storage = λ i e. go_confined g n w (SameByte i) refl (spares_byte g i n w) (λ L f. (run_confined g n w L).storage i f) e;
    long = go_confined g n w SameCells refl true (λ L f. (run_confined g n w L).long) (asked (guard_of g w));
    storage_long = go_confined g n w SameStorage refl true (λ L f. (run_confined g n w L).storage_long) (asked (guard_of g w));
    start_cells = starts_cells w _ (start_by g w (guard_of g w));
    start_else = λ h. starts_else w _ (start_by g w (guard_of g w)) h;
    start_storage = λ i h. start_storage g w (guard_of g w) refl i h;
    start_long = start_long g w (guard_of g w) refl;
  }
