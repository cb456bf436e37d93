-- What the code's calls come to, in the model's words.
use Prim.Native.Nat.{ℕ, ◌+◌, ◌-◌, ◌≤◌}
use mathlib.Core.Path.{◌≡◌, refl, sym, ap, ◌∙◌, subst}
use mathlib.Core.Bool.{Bool}
use mathlib.Core.List.{List}
use native.Mathlib.Omega.{arith}
use lib.ListN.{length, take, drop}
use borrow.Rule.Slice.PartMut.{put_mid}
use Rattle.words.specs.declared.{Word.Word, Cause.Cause, Directive.Directive}
use Rattle.words.proofs.Obeys.{TestedIn, tested_in}
use Rattle.words.specs.Words.{AreaFits, tested, stored, program_check}
use Rattle.pack.specs.declared.{Shape.Shape}
use Rattle.pack.specs.Pack.{start_of, track_at, with_track}
use Rattle.pack.proofs.Laws.{lent_is, lent_back}
use Rattle.held.specs.declared.{Held.Held}
use Rattle.held.specs.Held.{rested}
use Rattle.turn.specs.Turn.{Turn, lay}
use Rattle.command.proofs.Here.{command_here}
use Rattle.channel.specs.Channel.{fetched, World, world, word_end, turn_on, obeyed_on, jumped, stops}
use Rattle.channel.specs.Inside.{CanObey}
use Rattle.chain.specs.Step.{Legal, under, track_under, next, tracks_of, turn_of, settled, obeyed, step_by, step}
use Rattle.chain.proofs.Fits.{key_in, selected_on, channeled, ordered}
use Rattle.chain.proofs.Legal.{track_whole, turn-left, put_back}
use Rattle.std.specs.Prelude.{Ok, Err, Result}
use Rattle.words.specs.declared.Directive.TheVariants.{Obey}

pub world_eq : {h k : Held} {s t c d : List ℕ} → h ≡ k → s ≡ t → c ≡ d → world h s c ≡ world k t d
world_eq p q r = λ i. record { held = p i; storage = q i; cells = r i }

-- ---- a step

-- by what the next word's tests say
module _ (g : Shape) (h r : Held) (s c : List ℕ) (x : Result Directive Cause) (next_is : x ≡ tested s h.channel.next h.channel.after_tic) where
  taken : (v : World) (y : Result Directive Cause) → x ≡ y → v ≡ step_by g (world h s c) y → v ≡ step g (world h s c)
  unfolding step next
  taken v y q e = e ∙ ap (step_by g (world h s c)) (sym q ∙ next_is)

  pub step_obeys : (w : Word) (u d : List ℕ) → x ≡ Ok (Directive.Obey w) → world r u d ≡ obeyed g (world h s c) w → world r u d ≡ step g (world h s c)
  unfolding step_by
  step_obeys w u d q e = taken (world r u d) (Ok (Directive.Obey w)) q e

  pub step_jumps : (a : ℕ) → x ≡ Ok (Directive.Jump a) → r ≡ jumped h a → world r s c ≡ step g (world h s c)
  unfolding step_by
  step_jumps a q e = taken (world r s c) (Ok (Directive.Jump a)) q (world_eq e refl refl)

  pub step_ends : (cause : Cause) (u : List ℕ) → x ≡ Err cause → r ≡ rested h.position
      → u ≡ stored s (program_check h.channel.key h.channel.next cause) → world r u c ≡ step g (world h s c)
  unfolding step_by stops
  step_ends cause u q e f = taken (world r u c) (Err cause) q (world_eq e f refl)

pub word-reaches : (s : List ℕ) (at : ℕ) (tic : Bool) (x : Result Directive Cause) (w : Word) → x ≡ tested s at tic → x ≡ Ok (Obey w) → AreaFits s w
word-reaches s at tic x w p q = record { area = subst (TestedIn s) (sym p ∙ q) (tested_in s at tic) }

-- ---- a command on the track under the head

under_is : (g : Shape) (h : Held) → start_of g h.position.cylinder h.position.head ≡ under g h
unfolding under
under_is g h = refl

module _ (g : Shape) (h : Held) (w : Word) (s cells : List ℕ) (L : Legal g (world h s cells)) where
  abbrev W : World
  W = world h s cells

  -- the cells that are lent are the track under the head
  lent_there : (a : ℕ) → a ≡ start_of g h.position.cylinder h.position.head → take (a + 4096 - a) (drop a cells) ≡ track_under g W
  unfolding track_under under
  lent_there a e = lent_is cells a ∙ ap (track_at cells) e

  pub lent_serves : (a : ℕ) → a ≡ start_of g h.position.cylinder h.position.head → AreaFits s w → CanObey h w s (take (a + 4096 - a) (drop a cells))
  lent_serves a e r =
      subst (CanObey h w s) (sym (lent_there a e))
      (record {
        room = omega (arith, L.room);
        key = key_in h.channel (channeled g W L);
        reaches = r;
        whole = track_whole g W L;
        selected = selected_on _ h.orders (ordered g W L);
      })

  -- a command works on that track alone
  turn_there : turn_on g (world h s (track_under g W)) w ≡ turn_of g W w
  unfolding turn_on turn_of track_under under tracks_of
  turn_there = sym (command_here g (tracks_of g cells h.position.cylinder) h.position h.orders w.code (fetched s w))

  obeyed_there : obeyed_on g (world h s (track_under g W)) w ≡ word_end W w (turn_of g W w) (lay (turn_of g W w).lays (track_under g W))
  unfolding obeyed_on
  obeyed_there = ap (λ (x : Turn). word_end W w x (lay x.lays (track_under g W))) turn_there

  pub commanded : (a : ℕ) (r : Held) (s' t' : List ℕ) → a ≡ start_of g h.position.cylinder h.position.head → a + 4096 ≤ length cells → AreaFits s w
      → world r s' t' ≡ obeyed_on g (world h s (take (a + 4096 - a) (drop a cells))) w → length t' ≡ length (take (a + 4096 - a) (drop a cells))
      → world r s' (put_mid a (a + 4096 - a) cells t') ≡ obeyed g W w
  unfolding obeyed settled
  commanded a r s' t' e fits reach did long =
      let same = did ∙ ap (λ (t : List ℕ). obeyed_on g (world h s t) w) (lent_there a e) ∙ obeyed_there in
      world_eq (ap (λ (z : World). z.held) same) (ap (λ (z : World). z.storage) same)
      (lent_back (λ z. t') cells t' a (under g h) (e ∙ under_is g h) fits long refl
      ∙ ap (λ (z : World). with_track cells (under g h) z.cells) same
      ∙ sym (put_back g W L w (turn_of g W w) (turn-left g W L w) reach))
