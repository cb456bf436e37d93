-- What an allowance changes: one word after another, each from a legal world. On a track where no write runs no word may change a cell.
use Prim.Native.Nat.{ℕ, zero, suc, ◌+◌, ◌-◌, ◌*◌, ◌<◌}
use mathlib.Core.Path.{◌≡◌, refl, sym, ap, ◌∙◌}
use mathlib.Core.Bool.{Bool, true, false, not, false≢true}
use mathlib.Core.List.{List}
use lib.ListN.{get_or}
use lib.Dec.{eqb}
use borrow.Author.Tests.{not-true, eqb-false}
use Rattle.table.specs.Table.{is_write, rule_of}
use Rattle.cells.specs.Cells.{pick, both, track_cells}
use Rattle.cells.proofs.Marks.{both_never}
use Rattle.cells.proofs.Tests.{first_of, second_of}
use Rattle.pack.specs.declared.{Shape.Shape}
use Rattle.pack.specs.Pack.{start_of}
use Rattle.held.specs.declared.{Orders.Orders}
use Rattle.table.specs.declared.{Act.Act, Rule.Rule}
use Rattle.command.specs.Command.{licensed}
use Rattle.channel.specs.Channel.{World}
use Rattle.chain.specs.Step.{under, track_under, next, step, run, tested_writes, Legal}
use Rattle.chain.proofs.Legal.{step_legal}
use Rattle.chain.proofs.Runs.{run_sizes}
use Rattle.claim_box.specs.Confined.{among, act_reaches, bars, may_change, word_changes, changes, spares, spares_cell, spares_byte, track_on, writes_on, spares_track, RunConfined}
use Rattle.claim_box.proofs.Outside.{out_test, apart}
use Rattle.claim_box.proofs.NextWord.{none_elsewhere, step_confined}
use Rattle.std.specs.Prelude.{Ok, Err, Option, Result}
use Rattle.words.specs.declared.Directive.TheVariants.{Obey, Jump}
use Rattle.hunt.specs.declared.{Spot.Spot}
use Rattle.words.specs.declared.{Directive.Directive, Cause.Cause}

module _ (g : Shape) where
  -- what every word keeps of which the test does not hold
  run_keeps : (f : World → Bool) (at : World → ℕ) → ((w : World) → Legal g w → f w ≡ false → at (step g w) ≡ at w)
      → (n : ℕ) (w : World) → Legal g w → spares g f n w ≡ true → at (run g n w) ≡ at w
  unfolding run spares
  run_keeps f at keeps zero w L e = refl
  run_keeps f at keeps (suc n) w L e = go w.held.channel.going e (run_keeps f at keeps n (step g w) (step_legal g w L))
    where
      go : (b : Bool) → pick b (both (not (f w)) (spares g f n (step g w))) true ≡ true
          → (spares g f n (step g w) ≡ true → at (run g n (step g w)) ≡ at (step g w)) → at (pick b (run g n (step g w)) w) ≡ at w
      go true e h = h (second_of (not (f w)) _ e) ∙ keeps w L (not-true (f w) (first_of (not (f w)) _ e))
      go false e h = refl

  -- ---- a track on which no write runs

  no_write : (a : Act) (t : List ℕ) (x : Option Spot) (i : ℕ) → is_write a ≡ false → act_reaches a t x i ≡ false
  unfolding is_write act_reaches
  no_write (Act.Control a) t x i e = refl
  no_write (Act.Search h) t x i e = refl
  no_write (Act.Read c) t x i e = refl
  no_write (Act.Write k) t x i e = absurd (false≢true (sym e))

  never_may : (r : Rule) (o : Orders) (t : List ℕ) (i : ℕ) → is_write r.act ≡ false → may_change r o t i ≡ false
  unfolding may_change
  never_may r o t i e =
      ap (λ (b : Bool). both (licensed r.licence o) (both (not (bars r.bar o.mask)) b)) (no_write r.act t o.selection i e)
      ∙ ap (both (licensed r.licence o)) (both_never (not (bars r.bar o.mask))) ∙ both_never (licensed r.licence o)

  word-spares : (w : World) (x : Result Directive Cause) (i : ℕ) → tested_writes x ≡ false → word_changes g w i x ≡ false
  unfolding tested_writes word_changes
  word-spares w (Ok (Obey d)) i e =
      ap (both (among (under g w.held) track_cells i)) (never_may (rule_of d.code) w.held.orders (track_under g w) (i - under g w.held) e)
      ∙ both_never (among (under g w.held) track_cells i)
  word-spares w (Ok (Jump a)) i e = refl
  word-spares w (Err cause) i e = refl

  off_spares : (w : World) (m i : ℕ) → i < track_cells → eqb m (track_on g w) ≡ false
      → among (under g w.held) track_cells (m * track_cells + i) ≡ false
  unfolding under start_of
  off_spares w m i h e =
      out_test _ track_cells (m * track_cells + i)
      (apart m (track_on g w) i (eqb-false _ _ e) h)

  off_writes : (w : World) (m i : ℕ) → i < track_cells → writes_on g m w ≡ false → changes g w (m * track_cells + i) ≡ false
  unfolding writes_on changes
  off_writes w m i h e = go (eqb m (track_on g w)) refl e
    where
      go : (b : Bool) → eqb m (track_on g w) ≡ b → both b (tested_writes (next w)) ≡ false
          → word_changes g w (m * track_cells + i) (next w) ≡ false
      go true p f = word-spares w (next w) (m * track_cells + i) f
      go false p f = none_elsewhere g w (next w) (m * track_cells + i) (off_spares w m i h p)

  pub run_confined : (n : ℕ) (w : World) → Legal g w → RunConfined g n w
  unfolding spares_cell spares_byte spares_track
  run_confined n w L = record {
    cells = λ i e. run_keeps _ (λ (v : World). get_or v.cells i 0) (λ v K f. (step_confined g v K).cells i f) n w L e;
    track = λ m i h e.
        run_keeps _ (λ (v : World). get_or v.cells (m * track_cells + i) 0)
        (λ v K f. (step_confined g v K).cells (m * track_cells + i) (off_writes v m i h f)) n w L e;
    storage = λ i e. run_keeps _ (λ (v : World). get_or v.storage i 0) (λ v K f. (step_confined g v K).storage i f) n w L e;
    long = (run_sizes g n w L).cells;
    storage_long = (run_sizes g n w L).storage;
  }
