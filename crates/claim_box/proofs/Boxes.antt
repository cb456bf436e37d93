-- Each wrong box differs from the right one on a chain of one or two words: the same byte or value comes out as two numbers. What is said is
-- an equation, so it admits one box.
use Prim.Native.Nat.{ℕ, zero, suc, ◌%◌}
use native.Mathlib.Omega.{arith}
use mathlib.Core.Path.{◌≡◌, refl, ap}
use mathlib.Core.List.{List, [], ◌∷◌}
use lib.ListN.{get_or}
use lib.Dec.{lit≤}
use Rattle.cells.specs.Cells.{pick}
use Rattle.words.specs.declared.{Word.Word}
use Rattle.pack.specs.declared.{Shape.Shape}
use Rattle.held.specs.Held.{fresh}
use Rattle.channel.specs.Channel.{World, world}
use Rattle.chain.specs.Step.{step, run}
use Rattle.chain.proofs.Runs.{run_idle}
use Rattle.host.specs.declared.Answer.TheVariants.{NoChain}
use Rattle.host.specs.Host.{Hears, hears, guard_of, guards, beginning, ran, goes}
use Rattle.sound.specs.Tracks.{home_and_r0}
use Rattle.claim_box.specs.Figures.{word, storage_with, one_pack, zero_track, search_then_no_op}
use Rattle.claim_box.proofs.Opened.{box}
use Rattle.claim_box.proofs.Pinned.{one_outcome}
use Rattle.claim_box.specs.Boxes.{all_under, lent, right_box, run_by, stepped_by, refuses_always, replied, fixed_reply, does_nothing, checks_read, step_checking, data_checks_reads, words_counted, at_once, runs_at_once, invented_after, settled_inventing, step_inventing, invents_count, ShutOutAll, OneBox}

-- ---- chains to tell them by, each begun on a box that was fresh

-- one word at 256, its bytes at 128
abbrev begun : List ℕ → List ℕ → World
begun words track = world (beginning fresh 0 256) (storage_with words (0 ∷ 0 ∷ 0 ∷ 0 ∷ [])) track

-- Search HA, count 4: satisfied on a soundly written track, 4C and count left 0; Data Check on a track of zeros, 0E and count left 4
abbrev home_sought : List ℕ → World
home_sought track = begun (word 0x39 128 0x00 4) track

-- Read HA, count 5
abbrev home_read : World
home_read = begun (word 0x1A 160 0x00 5) home_and_r0

-- a byte of storage that is left
abbrev byte_left : ℕ → Hears → ℕ
byte_left at x = get_or x.left.storage at 0

-- Search HA satisfied, and at 272 a No-op, which ends the chain
abbrev two_words : World
two_words = world (beginning fresh 0 256) search_then_no_op home_and_r0

pub shut_out : ShutOutAll
unfolding box all_under lent run_by stepped_by refuses_always replied fixed_reply does_nothing checks_read step_checking data_checks_reads words_counted at_once runs_at_once invented_after settled_inventing step_inventing invents_count
shut_out = record {
  refusing_always = λ a m.
      let z : ◌≡◌ {A = ℕ} 0 0x4C = ap (byte_left 68) (m.go_so one_pack 1 (home_sought home_and_r0) (lit≤ tt) refl) in
      omega arith;
  one_fixed_reply = λ x m.
      let z : x.unit ≡ 0x4C = ap (byte_left 68) (m.go_so one_pack 1 (home_sought home_and_r0) (lit≤ tt) refl) in
      let y : x.unit ≡ 0x0E = ap (byte_left 68) (m.go_so one_pack 1 (home_sought zero_track) (lit≤ tt) refl) in
      omega arith;
  doing_nothing = λ m.
      let z : ◌≡◌ {A = ℕ} 0 0x4C = ap (byte_left 68) (m.go_so one_pack 1 (home_sought home_and_r0) (lit≤ tt) refl) in
      omega arith;
  data_check_on_every_read = λ m.
      let z : ◌≡◌ {A = ℕ} 0x0E 0x0C = ap (byte_left 68) (m.go_so one_pack 1 home_read (lit≤ tt) refl) in
      omega arith;
  whole_chain_at_once = λ k m.
      let z : get_or (run one_pack (suc (suc k)) two_words).storage 68 0 ≡ 0 = ap (byte_left 68) (m.go_so one_pack 1 two_words (lit≤ tt) refl) in
      let y : get_or (run one_pack (suc (suc k)) two_words).storage 68 0 ≡ 0x0C
      = ap (λ (w : World). get_or w.storage 68 0) (run_idle one_pack k (step one_pack (step one_pack two_words)) refl) in
      omega arith;
  invented_count-left = λ left m.
      let d : Word = record { code = 0x39; address = 128; flags = 0; count = 4 } in
      let z : left d % 256 ≡ 0 = ap (byte_left 71) (m.go_so one_pack 1 (home_sought home_and_r0) (lit≤ tt) refl) in
      let y : left d % 256 ≡ 4 = ap (byte_left 71) (m.go_so one_pack 1 (home_sought zero_track) (lit≤ tt) refl) in
      omega arith;
}

-- ---- one box

-- word by word, by the right step, is the right run
by_steps : (g : Shape) (n : ℕ) (w : World) → run_by (step g) n w ≡ run g n w
unfolding run_by run
by_steps g zero w = refl
by_steps g (suc n) w = ap (λ (v : World). pick w.held.channel.going v w) (by_steps g n (step g w))

pub one_box : OneBox
unfolding right_box stepped_by goes
one_box = record {
  met = record { start_so = λ g w l. refl; go_so = λ g n w h l. refl };
  met_by_steps = record {
    start_so = λ g w l. refl;
    go_so = λ g n w h l. ap (λ (v : World). guards (guard_of g w) w (pick w.held.channel.going (ran v) (hears NoChain w))) (by_steps g n w);
  };
  same_start = λ b b' m m' g w l. one_outcome (m.start_so g w l) (m'.start_so g w l);
  same_go = λ b b' m m' g n w h l. one_outcome (m.go_so g n w h l) (m'.go_so g n w h l);
}
