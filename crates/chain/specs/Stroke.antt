-- A No-op that chains, in one stroke. No rule of document 01's: `Strokes` among the proofs shows that the model's step comes to it, so that a run of
-- No-ops needs no track.
use Rattle.std.specs.Prelude.{ℕ, ◌≡◌, Bool, false, List, eqb, Ok, Err, None, Result}
use Rattle.cells.specs.Cells.{both}
use Rattle.words.specs.declared.{Word.Word, Directive.Directive, Cause.Cause}
use Rattle.words.specs.Words.{chains}
use Rattle.pack.specs.declared.{Shape.Shape}
use Rattle.held.specs.declared.{Held.Held}
use Rattle.turn.specs.Turn.{after}
use Rattle.channel.specs.Channel.{world}
use Rattle.chain.specs.Step.{run, Legal}

-- No-op, with flag 40
unfoldable pub chained_no_op : Word → Bool
chained_no_op w = both (eqb w.code 0x03) (chains w)

unfoldable pub tested_chained_no_op : Result Directive Cause → Bool
tested_chained_no_op (Ok (Directive.Obey w)) = chained_no_op w
tested_chained_no_op (Ok (Directive.Jump a)) = false
tested_chained_no_op (Err cause) = false

-- what is held after No-ops, with this next word
unfoldable pub after_no_ops : Held → ℕ → Held
after_no_ops h next = record {
  position = h.position;
  orders = after h.orders 0x03 false 0 None;
  channel = record { going = h.channel.going; key = h.channel.key; next = next; after_tic = false };
}

-- on any pack: an allowance from what was held comes to what is left of it from what is held now, and a legal world stays legal
pub record SameRun (s : List ℕ) (h : Held) (n : ℕ) (k : Held) (left : ℕ) : Type 0 where
  pub same : (g : Shape) (c : List ℕ) → Legal g (world h s c) → run g n (world h s c) ≡ run g left (world k s c)
  pub legal : (g : Shape) (c : List ℕ) → Legal g (world h s c) → Legal g (world k s c)
