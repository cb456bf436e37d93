-- A call over lent bytes is the model's call on the held state that they say, and what it leaves says what the model's left, since a held state's bytes say
-- that state. Where the bytes say none, every call refuses and leaves all as it was. So calls one after another go side by side.
use Prim.Native.Nat.{ℕ}
use mathlib.Core.Path.{◌≡◌, refl, sym, ap, ◌∙◌, subst}
use mathlib.Core.List.{List, [], ◌∷◌}
use lib.ListN.{length}
use Rattle.pack.specs.declared.{Shape.Shape}
use Rattle.held.specs.declared.{Held.Held}
use Rattle.held.specs.Held.{kept}
use Rattle.held.proofs.Inverse.{kept-encoded}
use Rattle.channel.specs.Channel.{World}
use Rattle.host.specs.Host.{Hears, answer_no, wrong_held}
use Rattle.box_export.specs.Calls.{Call, call, call_of, start_kept, start_call, go_kept, go_call}
use Rattle.claim_box.specs.Demand3.{HostCall, start, go, hear, left}
use Rattle.claim_host.specs.Linked.{link, linked_to, world_by}
use Rattle.std.specs.Prelude.{Some, None, Option}

-- by what the bytes say
pub by_kept : (v : List ℕ) (P : Type 0) → ((h : Held) → kept v ≡ Some h → P) → (kept v ≡ None → P) → P
by_kept v P f e = go (kept v) refl
  where
    go : (k : Option Held) → kept v ≡ k → P
    go (Some h) q = f h q
    go None q = e q

-- a call refused for its bytes
abbrev pub refused : Shape → Call → Call
refused g x = call (answer_no (wrong_held g (length x.storage) (length x.cells))) x.held x.storage x.cells

-- what is lent says this world
pub record Says (x : Call) (w : World) : Type 0 where
  pub held : kept x.held ≡ Some w.held
  pub same : world_by x w.held ≡ w

module _ (g : Shape) where
  -- ---- one call

  pub link_holds : (k : HostCall) (x : Call) (h : Held) → kept x.held ≡ Some h → link g k x ≡ call_of (hear g k (world_by x h))
  unfolding link start_call start_kept go_call go_kept hear
  link_holds start x h e = ap (start_kept g x.held x.storage x.cells) e
  link_holds (go n) x h e = ap (go_kept g n x.held x.storage x.cells) e

  pub link_wrong : (k : HostCall) (x : Call) → kept x.held ≡ None → link g k x ≡ refused g x
  unfolding link start_call start_kept go_call go_kept
  link_wrong start x e = ap (start_kept g x.held x.storage x.cells) e
  link_wrong (go n) x e = ap (go_kept g n x.held x.storage x.cells) e

  pub link_says : (k : HostCall) (x : Call) (w : World) → Says x w → link g k x ≡ call_of (hear g k w)
  link_says k x w s = link_holds k x w.held s.held ∙ ap (λ (v : World). call_of (hear g k v)) s.same

  -- what a call leaves says what the model's leaves
  heard_says : (y : Hears) → Says (call_of y) y.left
  unfolding call_of
  heard_says y = record { held = kept-encoded y.left.held; same = refl }

  -- ---- calls

  pub left_says : (ks : List HostCall) (x : Call) (w : World) → Says x w → Says (linked_to g ks x) (left g ks w)
  unfolding linked_to left
  left_says [] x w s = s
  left_says (k ∷ ks) x w s =
      subst (λ (y : Call). Says (linked_to g ks y) (left g ks (hear g k w).left)) (sym (link_says k x w s)) (left_says ks _ _ (heard_says (hear g k w)))

  -- refused again and again
  pub left_wrong : (ks : List HostCall) (x : Call) → kept x.held ≡ None
      → ((linked_to g ks x).held ≡ x.held) × ((linked_to g ks x).storage ≡ x.storage) × ((linked_to g ks x).cells ≡ x.cells)
  unfolding linked_to
  left_wrong [] x e = (refl, refl, refl)
  left_wrong (k ∷ ks) x e =
      subst (λ (y : Call). ((linked_to g ks y).held ≡ x.held) × ((linked_to g ks y).storage ≡ x.storage) × ((linked_to g ks y).cells ≡ x.cells))
      (sym (link_wrong k x e)) (left_wrong ks (refused g x) e)
