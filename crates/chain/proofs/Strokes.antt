-- The model's step of a No-op that chains: it gives no byte, lays no cell and counts no length, so that the channel goes on to the word 8 on. Hence a run
-- of them is one stroke.
use Prim.Native.Nat.{ℕ, ◌-◌, ◌<◌}
use mathlib.Core.Path.{◌≡◌, refl, sym, ap, ◌∙◌, subst}
use mathlib.Core.Bool.{Bool, true, false, false≢true}
use mathlib.Core.List.{List, []}
use native.Mathlib.Omega.{arith}
use lib.Dec.{eqb}
use borrow.Author.Tests.{eqb-true, eq-eqb, ne_eqb}
use Rattle.cells.specs.Cells.{pick, both, overlay}
use lib.Seq.{take-nil}
use Rattle.cells.proofs.Laws.{overlay_none}
use Rattle.cells.proofs.Tests.{first_of, second_of, first_picked}
use Rattle.words.specs.declared.{Word.Word, Directive.Directive, Cause.Cause}
use Rattle.words.specs.Words as Words
use Rattle.words.specs.Words.{along, chains, is_tic, word_at, tested_word, tested}
use Rattle.pack.specs.declared.{Shape.Shape}
use Rattle.held.specs.declared.{Position.Position, Held.Held, Orders.Orders}
use Rattle.turn.specs.declared.Ending.TheVariants.{Normal}
use Rattle.turn.specs.Turn.{position_at, after, orders_of, Tracks, None, transfer_of, given, Turn, turn, report_of}
use Rattle.channel.specs.Channel.{ends_well, stride, onward, fetched, placed, moves_any, length_counts, wrong_length, goes_on, held_after, with_status, storage_after, World, world}
use Rattle.table.specs.Table.{rule_of, find, controls}
use Rattle.command.specs.Command.{licensed, aimed, unless_barred, plan_of, areas_of, all_read, counts_in, gets, areas_read, sight, position_after, sense_after, orders_after, end_turn_at, end_turn, no_op_turn, control_turn, act_turn, has_read, ready_by, plan_reads, ready_turn, rule_turn, command}
use Rattle.chain.specs.Step.{next, tracks_of, lay_on, turn_of, settled, obeyed, step_by, step, run, Legal}
use Rattle.chain.specs.Stroke.{chained_no_op, tested_chained_no_op, after_no_ops, SameRun}
use Rattle.chain.proofs.Laws.{world_eq}
use Rattle.chain.proofs.Legal.{step_legal}
use Rattle.chain.proofs.Runs.{run_more}
use Rattle.std.specs.Prelude.{Ok, Err, Option, Result}
use Rattle.words.specs.declared.Directive.TheVariants.{Obey, Jump}

-- whether a TIC came before does not matter to it
module _ (s : List ℕ) (at : ℕ) where
  same_test : (tic : Bool) → tested_chained_no_op (tested s at false) ≡ true → tested s at tic ≡ tested s at false
  unfolding tested tested_word tested_chained_no_op
  same_test tic e = go (Words.in_place s at) (is_tic (word_at s at)) _ _ _ _ e
    where
      go : (p q : Bool) (a : ℕ) (u v x : Result Directive Cause) → tested_chained_no_op (pick p (pick q (Ok (Jump a)) u) v) ≡ true → pick p (pick q (pick tic x (Ok (Jump a))) u) v ≡ pick p (pick q (Ok (Jump a)) u) v
      go true true a u v x e = absurd (false≢true e)
      go true false a u v x e = refl
      go false q a u v x e = refl

module _ (w : Word) where
  pub other_code : (w.code ≡ 0x03 → ⊥) → false ≡ chained_no_op w
  unfolding chained_no_op
  other_code e = ap (λ (b : Bool). both b (chains w)) (sym (ne_eqb _ _ e))

  pub by_flag : w.code ≡ 0x03 → chains w ≡ chained_no_op w
  unfolding chained_no_op
  by_flag e = ap (λ (b : Bool). both b (chains w)) (sym (eq-eqb _ _ e))

pub by_test : (s : List ℕ) (at : ℕ) (x y : Result Directive Cause) (r : Bool) → x ≡ tested s at false → x ≡ y → r ≡ tested_chained_no_op y → r ≡ tested_chained_no_op (tested s at false)
by_test s at x y r p q e = e ∙ ap tested_chained_no_op (sym q ∙ p)

-- a No-op's turn: nothing moves, nothing is laid, and sense stands
no_op : (g : Shape) (t : Tracks) (s : Position) (o : Orders) (v : List ℕ) → command g t s o 0x03 v ≡ turn Normal None [] [] s (after o 0x03 false 0 Option.None)
unfolding command rule_of find controls rule_turn plan_of licensed unless_barred aimed plan_reads areas_of ready_by gets all_read has_read ready_turn act_turn control_turn no_op_turn end_turn end_turn_at sight areas_read position_after sense_after position_at orders_after counts_in
no_op g t s o v = refl

module _ (g : Shape) (w : World) (L : Legal g w) where
  module _ (d : Word) (code : d.code ≡ 0x03) (on : chains d ≡ true) where
    abbrev x : Turn
    x = turn Normal None [] [] w.held.position (after w.held.orders 0x03 false 0 Option.None)

    turn_no_op : turn_of g w d ≡ x
    unfolding turn_of
    turn_no_op =
        ap (λ (c : ℕ). command g (tracks_of g w.cells w.held.position.cylinder) w.held.position w.held.orders c (fetched w.storage d)) code
        ∙ no_op g _ _ _ _

    goes_on_lem : goes_on d (report_of x) ≡ true
    unfolding goes_on wrong_length length_counts moves_any ends_well report_of transfer_of
    goes_on_lem = ap (λ (b : Bool). both b true) on

    held_on : held_after w.held.channel d (report_of x) ≡ after_no_ops w.held (along w.held.channel.next 8)
    unfolding held_after onward stride after_no_ops report_of
    held_on = first_picked _ _ _ goes_on_lem

    storage_on : storage_after w.held.channel d x w.storage ≡ w.storage
    unfolding storage_after with_status placed given
    storage_on = first_picked _ _ _ goes_on_lem ∙ ap (overlay w.storage d.address) (take-nil d.count) ∙ overlay_none w.storage d.address

    obeyed_no_op : obeyed g w d ≡ world (after_no_ops w.held (along w.held.channel.next 8)) w.storage w.cells
    unfolding obeyed settled lay_on
    obeyed_no_op = ap (settled g w d) turn_no_op ∙ world_eq held_on storage_on refl

  takes_no_op : (x : Result Directive Cause) → tested_chained_no_op x ≡ true → step_by g w x ≡ world (after_no_ops w.held (along w.held.channel.next 8)) w.storage w.cells
  unfolding step_by tested_chained_no_op chained_no_op
  takes_no_op (Ok (Obey d)) e = obeyed_no_op d (eqb-true _ _ (first_of (eqb d.code 0x03) _ e)) (second_of (eqb d.code 0x03) _ e)
  takes_no_op (Ok (Jump a)) e = absurd (false≢true e)
  takes_no_op (Err cause) e = absurd (false≢true e)

  step_no_op : tested_chained_no_op (tested w.storage w.held.channel.next false) ≡ true
      → step g w ≡ world (after_no_ops w.held (along w.held.channel.next 8)) w.storage w.cells
  unfolding step next
  step_no_op e = ap (step_by g w) (same_test _ _ _ e) ∙ takes_no_op _ e

-- ---- a run of them

module _ (h : Held) where
  pub no_ops_are : (next : ℕ) (o : Orders) → o ≡ after h.orders 0x03 false 0 Option.None
      → record { position = h.position; orders = o; channel = record { going = h.channel.going; key = h.channel.key; next = next; after_tic = false } } ≡ after_no_ops h next
  unfolding after_no_ops
  no_ops_are next o e = ap (λ (x : Orders). record { position = h.position; orders = x; channel = record { going = h.channel.going; key = h.channel.key; next = next; after_tic = false } }) e

  no_ops_go : h.channel.going ≡ true → (a : ℕ) → (after_no_ops h a).channel.going ≡ true
  unfolding after_no_ops
  no_ops_go e a = e

module _ (s : List ℕ) (h : Held) (n : ℕ) (going : h.channel.going ≡ true) where
  one_more : 0 < n → tested_chained_no_op (tested s h.channel.next false) ≡ true → SameRun s h n (after_no_ops h (along h.channel.next 8)) (n - 1)
  one_more k e = record {
    same = λ g c L. run_more g n (world h s c) k going ∙ ap (run g (n - 1)) (step_no_op g (world h s c) L e);
    legal = λ g c L. subst (Legal g) (step_no_op g (world h s c) L e) (step_legal g (world h s c) L);
  }

  pub no_ops_first : (next : ℕ) → next ≡ along h.channel.next 8 → 0 < n → tested_chained_no_op (tested s h.channel.next false) ≡ true
      → SameRun s h n (after_no_ops h next) (n - 1) × (n - 1 < n)
  no_ops_first next a k e = (subst (λ (m : ℕ). SameRun s h n (after_no_ops h m) (n - 1)) (sym a) (one_more k e), omega (arith, k))

-- two runs are one
runs_join : {s : List ℕ} {h i k : Held} {n m l : ℕ} → SameRun s h n i m → SameRun s i m k l → SameRun s h n k l
runs_join p q = record { same = λ g c L. p.same g c L ∙ q.same g c (p.legal g c L); legal = λ g c L. q.legal g c (p.legal g c L) }

module _ (s : List ℕ) (h : Held) (n : ℕ) (going : h.channel.going ≡ true) (at left : ℕ) (p : SameRun s h n (after_no_ops h at) left × (left < n)) where
  no_ops_on : 0 < left → tested_chained_no_op (tested s at false) ≡ true → SameRun s h n (after_no_ops h (along at 8)) (left - 1)
  unfolding after_no_ops after orders_of
  no_ops_on k e = runs_join p.0 (one_more s (after_no_ops h at) left (no_ops_go h going at) k e)

  pub no_ops_more : (next : ℕ) (b : Bool) → next ≡ along at 8 → 0 < left → b ≡ tested_chained_no_op (tested s at false) → b ≡ true
      → SameRun s h n (after_no_ops h next) (left - 1) × (left - 1 < n)
  no_ops_more next b a k e f =
      (subst (λ (m : ℕ). SameRun s h n (after_no_ops h m) (left - 1)) (sym a) (no_ops_on k (sym e ∙ f)), omega (arith, p.1))

pub no_ops_told : (s : List ℕ) (h : Held) (n at left : ℕ) (k : Held) → SameRun s h n (after_no_ops h at) left × (left < n) → k ≡ after_no_ops h at → SameRun s h n k left × (left < n)
no_ops_told s h n at left k p e = (subst (λ (i : Held). SameRun s h n i left) (sym e) p.0, p.1)

-- ---- an allowance, by a step or by a stroke

-- so much of it is used: what was to come is still to come
abbrev pub Used : Shape → World → ℕ → World → ℕ → Type 0
Used g w n v left = (run g n w ≡ run g left v) × Legal g v × (left < n)

pub by_step : (g : Shape) (w v : World) (n : ℕ) → Legal g w → 0 < n → w.held.channel.going ≡ true → v ≡ step g w → Used g w n v (n - 1)
by_step g w v n L k e p = (run_more g n w k e ∙ ap (run g (n - 1)) (sym p), subst (Legal g) (sym p) (step_legal g w L), omega (arith, k))

pub by_stroke : (g : Shape) (s c : List ℕ) (h k : Held) (n left : ℕ) → Legal g (world h s c) → SameRun s h n k left × (left < n) → Used g (world h s c) n (world k s c) left
by_stroke g s c h k n left L p = (p.0.same g c L, p.0.legal g c L, p.1)
