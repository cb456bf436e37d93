-- Storage of bytes stays bytes, and sense too: by the word, the allowance, the call, the calls. Why: a word places bytes that a command gave, and stores a
-- status word, whose key, address and count left are numbers of the bytes that they are taken from.
use Prim.Native.Nat.{ℕ, zero, suc, ◌+◌, ◌-◌, ◌*◌, ◌/◌, ◌%◌, ◌<◌}
use mathlib.Core.Path.{◌≡◌, refl}
use mathlib.Core.Bool.{Bool, true, false}
use mathlib.Core.List.{List, [], ◌∷◌}
use native.Mathlib.Omega.{arith}
use lib.ListN.{length}
use lib.Dec.{ltb, leb, lit<}
use borrow.Author.Tests.{lt-ltb}
use Rattle.cells.specs.Cells.{pick}
use Rattle.cells.proofs.Tests.{both_of, pick_all}
use Rattle.words.specs.declared.{Word.Word, Status.Status, Cause.Cause, Directive.Directive}
use Rattle.words.specs.Words.{word_at, tested_command, tested_word, tested, status_bytes, stored, status_for, channel_for, program_check, flags_known, is_tic, in_place, begun_by}
use Rattle.pack.specs.declared.{Shape.Shape}
use Rattle.held.specs.declared.{Channel.Channel, Held.Held}
use Rattle.held.specs.Held.{rested}
use Rattle.turn.specs.declared.{Ending.Ending, Report.Report}
use Rattle.turn.specs.Turn.{Turn, given, report_of}
use Rattle.channel.specs.Channel.{fetched, placed, unit_status, goes_on, wrong_length, held_after, status_after, with_status, storage_after, World, stops, jumped}
use Rattle.chain.specs.Step.{next, turn_of, settled, obeyed, step_by, step, run, Legal}
use Rattle.chain.proofs.Fits.{key_in, channeled}
use Rattle.chain.proofs.Legal.{step_legal}
use Rattle.host.specs.declared.{Answer.Answer}
use Rattle.host.specs.Host.{Hears, hears, guard_of, guards, refuses_start, beginning, first_word, begins, starts, ran, goes}
use Rattle.host.proofs.Laws.{passes_legal}
use Rattle.claim_box.specs.Boxes.{all_under}
use Rattle.claim_box.specs.Demand3.{HostCall, start, go, hear, left}
use Rattle.claim_sound.specs.Soundness.{InBytes}
use Rattle.claim_sound.proofs.Bytes.{under-take, under-overlay, high_byte, low_byte, under-bytes}
use Rattle.claim_sound.proofs.Turns.{TurnBytes, command-bytes}
use Rattle.std.specs.Prelude.{Ok, Err, Some, None, Result, Option}
use Rattle.words.specs.declared.Directive.TheVariants.{Obey, Jump}

-- ---- the status word

record StatusFits (x : Status) : Type 0 where
  key : x.key < 16
  address : x.address < 16777216
  unit : x.unit < 256
  channel : x.channel < 256
  left : x.left < 65536

status_bytes_lem : (x : Status) → StatusFits x → all_under 256 (status_bytes x) ≡ true
unfolding all_under
status_bytes_lem x f =
    both_of (lt-ltb (x.key * 16) 256 (omega (arith, f.key))) (both_of (lt-ltb (x.address / 65536) 256 (omega (arith, f.address)))
    (both_of (low_byte (x.address / 256)) (both_of (low_byte x.address) (both_of (lt-ltb _ 256 f.unit) (both_of (lt-ltb _ 256 f.channel)
    (both_of (high_byte x.left f.left) (both_of (low_byte x.left) refl)))))))

stored_bytes : (s : List ℕ) (x : Status) → all_under 256 s ≡ true → StatusFits x → all_under 256 (stored s x) ≡ true
unfolding stored
stored_bytes s x b f = under-overlay 256 s 64 (status_bytes x) b (status_bytes_lem x f)

-- a program check's
cause_byte : (c : Cause) → channel_for c < 256
unfolding channel_for
cause_byte Cause.Place = lit< tt
cause_byte Cause.TicAfterTic = lit< tt
cause_byte Cause.Flags = lit< tt
cause_byte Cause.NoCount = lit< tt
cause_byte Cause.Code = lit< tt
cause_byte Cause.Area = lit< tt

check-fits : (key at : ℕ) (c : Cause) → key < 16 → StatusFits (program_check key at c)
unfolding program_check status_for
check-fits key at c h = record { key = h; address = omega arith; unit = lit< tt; channel = cause_byte c; left = lit< tt }

-- a command's
unit_byte : (e : Ending) → unit_status e < 256
unfolding unit_status
unit_byte Ending.Normal = lit< tt
unit_byte Ending.Satisfied = lit< tt
unit_byte Ending.Exception = lit< tt
unit_byte (Ending.Check row) = lit< tt

after-fits : (c : Channel) (d : Word) (r : Report) → c.key < 16 → d.count < 65536 → StatusFits (status_after c d r)
unfolding status_after status_for
after-fits c d r h k = record {
  key = h;
  address = omega arith;
  unit = unit_byte r.ending;
  channel = pick_all (λ (n : ℕ). n < 256) (wrong_length d r) {x = 0x40} {y = 0x00} (lit< tt) (lit< tt);
  left = omega (arith, k);
}

-- ---- a command word of bytes has a count of two

abbrev CountFits : Result Directive Cause → Type 0
CountFits (Ok (Obey d)) = d.count < 65536
CountFits (Ok (Jump a)) = Unit {0}
CountFits (Err cause) = Unit {0}

module _ (s : List ℕ) (b : all_under 256 s ≡ true) where
  word_count : (at : ℕ) → (word_at s at).count < 65536
  unfolding word_at
  word_count at = omega (arith, under-bytes s b (at + 6), under-bytes s b (at + 6 + 1))

  command-count : (w : Word) → w.count < 65536 → CountFits (tested_command s w)
  unfolding tested_command
  command-count w h =
      pick_all CountFits (flags_known w)
      (pick_all CountFits (ltb 0 w.count)
      (pick_all CountFits (ltb 0 (w.code % 16)) (pick_all CountFits (leb (w.address + w.count) (length s)) {x = Ok (Obey w)} {y = Err Cause.Area} h tt) tt) tt) tt

  tested-count : (at : ℕ) (tic : Bool) → CountFits (tested s at tic)
  unfolding tested tested_word
  tested-count at tic =
      pick_all CountFits (in_place s at)
      (pick_all CountFits (is_tic (word_at s at))
      (pick_all CountFits tic {x = Err Cause.TicAfterTic} {y = Ok (Jump (word_at s at).address)} tt tt) (command-count (word_at s at) (word_count at))) tt

-- ---- a word

module _ (g : Shape) where
  module _ (w : World) (L : Legal g w) (b : InBytes w) where
    key_fits : w.held.channel.key < 16
    key_fits = key_in w.held.channel (channeled g w L)

    settled-bytes : (d : Word) (x : Turn) → d.count < 65536 → TurnBytes x → InBytes (settled g w d x)
    unfolding settled held_after storage_after with_status rested report_of placed
    settled-bytes d x h t =
        let put : all_under 256 (placed w.storage d (given x.moves)) ≡ true =
        under-overlay 256 w.storage d.address _ b.storage (under-take 256 d.count _ t.gives) in
        record {
          storage = pick_all (λ (s : List ℕ). all_under 256 s ≡ true) (goes_on d (report_of x)) put
              (stored_bytes _ (status_after w.held.channel d (report_of x)) put (after-fits w.held.channel d (report_of x) key_fits h));
          byte0 = pick_all (λ (k : Held). k.position.sense.byte0 < 256) (goes_on d (report_of x)) t.sense.0 t.sense.0;
          byte1 = pick_all (λ (k : Held). k.position.sense.byte1 < 256) (goes_on d (report_of x)) t.sense.1 t.sense.1;
        }

    takes_bytes : (x : Result Directive Cause) → CountFits x → InBytes (step_by g w x)
    unfolding step_by obeyed turn_of stops jumped rested
    takes_bytes (Ok (Obey d)) h = settled-bytes d _ h (command-bytes g _ w.held.position w.held.orders d.code (fetched w.storage d) (b.byte0, b.byte1))
    takes_bytes (Ok (Jump a)) h = record { storage = b.storage; byte0 = b.byte0; byte1 = b.byte1 }
    takes_bytes (Err cause) h = record {
      storage = stored_bytes w.storage _ b.storage (check-fits _ _ cause key_fits);
      byte0 = b.byte0;
      byte1 = b.byte1;
    }

    pub step-bytes : InBytes (step g w)
    unfolding step next
    step-bytes = takes_bytes _ (tested-count w.storage b.storage w.held.channel.next w.held.channel.after_tic)

  -- ---- an allowance

  pub run-bytes : (n : ℕ) (w : World) → Legal g w → InBytes w → InBytes (run g n w)
  unfolding run
  run-bytes zero w L b = b
  run-bytes (suc n) w L b =
      pick_all InBytes w.held.channel.going (run-bytes n (step g w) (step_legal g w L) (step-bytes w L b)) b

  -- ---- a call

  module _ (w : World) (b : InBytes w) where
    refuses_bytes : InBytes (refuses_start w).left
    unfolding refuses_start
    refuses_bytes = record { storage = under-overlay 256 w.storage 68 _ b.storage (unfold all_under in refl); byte0 = b.byte0; byte1 = b.byte1 }

    first_bytes : (key at : ℕ) (x : Result Directive Cause) → InBytes (first_word w key at x).left
    unfolding first_word beginning
    first_bytes key at (Ok (Obey d)) = record { storage = b.storage; byte0 = b.byte0; byte1 = b.byte1 }
    first_bytes key at (Ok (Jump a)) = refuses_bytes
    first_bytes key at (Err cause) = refuses_bytes

    begins-bytes : (x : Option (ℕ × ℕ)) → InBytes (begins w x).left
    unfolding begins
    begins-bytes (Some (key, first)) = first_bytes key _ _
    begins-bytes None = refuses_bytes

    abbrev LeavesBytes : Hears → Type 0
    LeavesBytes x = InBytes x.left

    starts-bytes : (x : Result (Unit {0}) Answer) (y : Hears) → LeavesBytes y → InBytes (guards x w y).left
    unfolding guards
    starts-bytes (Ok tt) y h = h
    starts-bytes (Err a) y h = b

    goes-bytes : (n : ℕ) (x : Result (Unit {0}) Answer) (t : Bool) → guard_of g w ≡ x → InBytes (guards x w (pick t (ran (run g n w)) (hears Answer.NoChain w))).left
    unfolding guards ran
    goes-bytes n (Ok tt) true e = run-bytes n w (passes_legal g w e) b
    goes-bytes n (Ok tt) false e = b
    goes-bytes n (Err a) t e = b

    pub call-bytes : (k : HostCall) → InBytes (hear g k w).left
    unfolding hear starts goes
    call-bytes start = starts-bytes (guard_of g w) _ (pick_all LeavesBytes w.held.channel.going b (begins-bytes (begun_by w.storage)))
    call-bytes (go n) = goes-bytes n (guard_of g w) w.held.channel.going refl

  -- ---- any calls

  pub calls_bytes : (ks : List HostCall) (w : World) → InBytes w → InBytes (left g ks w)
  unfolding left
  calls_bytes [] w b = b
  calls_bytes (k ∷ ks) w b = calls_bytes ks (hear g k w).left (call-bytes w b k)
