-- Demand 3 takes a soundly written track; this carries soundness from chain to chain (REFERENCE 9.6). A pack whose tracks are all soundly written stays so
-- through start and go, over every chain, allowance and list of calls in which no Write HA ended without Unit Check; after one that did, its track is soundly
-- written again as soon as a Write R0 on it has ended without one. First: storage of bytes stays bytes, for what is written is fetched from there.
use Rattle.std.specs.Prelude.{ℕ, zero, suc, ◌*◌, ◌<◌, ◌≡◌, Bool, true, false, not, List, [], ◌∷◌, eqb, Ok, Err, Result}
use Rattle.cells.specs.Cells.{pick, both}
use Rattle.pack.specs.declared.{Shape.Shape}
use Rattle.table.specs.declared.{Write.Write, Act.Act}
use Rattle.table.specs.Table.{rule_of}
use Rattle.turn.specs.Turn.{is_check}
use Rattle.channel.specs.Channel.{World}
use Rattle.chain.specs.Step.{next, turn_of, step, run, Legal}
use Rattle.host.specs.Host.{guard_of, if_passes, goes}
use Rattle.sound.specs.Sound.{Sound}
use Rattle.claim_box.specs.Boxes.{all_under}
use Rattle.claim_box.specs.Confined.{track_on, spares}
use Rattle.claim_box.specs.Demand3.{track, HostCall, start, go, hear, left}
use Rattle.words.specs.declared.{Directive.Directive, Cause.Cause}
use Rattle.host.specs.declared.{Answer.Answer}

-- ---- bytes: storage, and sense, which the command Sense stores

abbrev pub bytes : ℕ
bytes = 256

pub record InBytes (w : World) : Type 0 where
  pub storage : all_under bytes w.storage ≡ true
  pub byte0 : w.held.position.sense.byte0 < bytes
  pub byte1 : w.held.position.sense.byte1 < bytes

-- ---- a write that was done: the next word is this one, and it ends without Unit Check

unfoldable pub writes_home : Write → Bool
writes_home Write.HomeAddress = true
writes_home Write.R0 = false
writes_home Write.CountKeyData = false
writes_home (Write.Update key) = false

unfoldable pub writes_r0 : Write → Bool
writes_r0 Write.HomeAddress = false
writes_r0 Write.R0 = true
writes_r0 Write.CountKeyData = false
writes_r0 (Write.Update key) = false

abbrev pub any_write : Write → Bool
any_write k = true

unfoldable pub is_the : (Write → Bool) → Act → Bool
is_the f (Act.Control a) = false
is_the f (Act.Search h) = false
is_the f (Act.Read counted) = false
is_the f (Act.Write k) = f k

unfoldable pub tested_done : Shape → (Write → Bool) → World → Result Directive Cause → Bool
tested_done g f w (Ok (Directive.Obey d)) = both (is_the f (rule_of d.code).act) (not (is_check (turn_of g w d).ending))
tested_done g f w (Ok (Directive.Jump a)) = false
tested_done g f w (Err cause) = false

-- on whichever track; on track m
unfoldable pub done : Shape → (Write → Bool) → World → Bool
done g f w = tested_done g f w (next w)

unfoldable pub done_on : Shape → (Write → Bool) → ℕ → World → Bool
done_on g f m w = both (eqb m (track_on g w)) (done g f w)

-- no write is done on track m by an allowance of n words
unfoldable pub spares_done : Shape → ℕ → ℕ → World → Bool
spares_done g m n w = spares g (done_on g any_write m) n w

-- ---- whether track m is known to be soundly written, which was known before or not

-- after the next word: no more after a Write HA on it, again after a Write R0 on it, each done
unfoldable pub known_next : Shape → ℕ → World → Bool → Bool
known_next g m w b = pick (done_on g writes_home m w) false (pick (done_on g writes_r0 m w) true b)

-- after an allowance of n words
unfoldable pub known_run : Shape → ℕ → ℕ → World → Bool → Bool
known_run g m zero w b = b
known_run g m (suc n) w b = pick w.held.channel.going (known_run g m n (step g w) (known_next g m w b)) b

-- after a call: a start and a refused go run no word
unfoldable pub known_go : Result (Unit {0}) Answer → Bool → Bool → Bool
known_go (Ok tt) ran b = ran
known_go (Err a) ran b = b

unfoldable pub known_call : Shape → ℕ → HostCall → World → Bool → Bool
known_call g m start w b = b
known_call g m (go n) w b = known_go (guard_of g w) (known_run g m n w b) b

-- after a host's calls, one after another
unfoldable pub known_calls : Shape → ℕ → List HostCall → World → Bool → Bool
known_calls g m [] w b = b
known_calls g m (k ∷ ks) w b = known_calls g m ks (hear g k w).left (known_call g m k w b)

-- what is known is so
abbrev pub Known : ℕ → List ℕ → Bool → Type 0
Known m cells b = b ≡ true → Sound (track cells m)

-- ---- the whole pack

-- every track is soundly written
abbrev pub AllSound : Shape → List ℕ → Type 0
AllSound g cells = (m : ℕ) → m < g.cylinders * g.heads → Sound (track cells m)

-- no Write HA was done in these calls
unfoldable pub home_kept : Shape → HostCall → World → Bool
home_kept g start w = true
home_kept g (go n) w = if_passes (guard_of g w) (spares g (done g writes_home) n w)

unfoldable pub homes_kept : Shape → List HostCall → World → Bool
homes_kept g [] w = true
homes_kept g (k ∷ ks) w = both (home_kept g k w) (homes_kept g ks (hear g k w).left)

-- ---- all of it

pub record SoundnessLasts (g : Shape) : Type 0 where
  -- storage of bytes stays bytes
  pub bytes_word : (w : World) → Legal g w → InBytes w → InBytes (step g w)
  pub bytes_calls : (ks : List HostCall) (w : World) → InBytes w → InBytes (left g ks w)
  -- where no write was done on it a track is as it was: by the allowance, and the go
  pub same : (m n : ℕ) (w : World) → Legal g w → spares_done g m n w ≡ true → track (run g n w).cells m ≡ track w.cells m
  pub same_go : (m n : ℕ) (w : World) → if_passes (guard_of g w) (spares_done g m n w) ≡ true → track (goes g n w).left.cells m ≡ track w.cells m
  -- soundly written: a track, by the word, the allowance, and any calls of a host
  pub word : (m : ℕ) (w : World) → Legal g w → InBytes w → (b : Bool) → Known m w.cells b → Known m (step g w).cells (known_next g m w b)
  pub allowance : (m n : ℕ) (w : World) → Legal g w → InBytes w → (b : Bool) → Known m w.cells b → Known m (run g n w).cells (known_run g m n w b)
  pub calls : (m : ℕ) (ks : List HostCall) (w : World) → InBytes w → (b : Bool) → Known m w.cells b
      → Known m (left g ks w).cells (known_calls g m ks w b)
  -- a Write R0 on it that was done: soundly written, whatever it was
  pub r0 : (m : ℕ) (w : World) → Legal g w → InBytes w → done_on g writes_r0 m w ≡ true → Sound (track (step g w).cells m)
  -- the pack
  pub pack : (ks : List HostCall) (w : World) → InBytes w → homes_kept g ks w ≡ true → AllSound g w.cells → AllSound g (left g ks w).cells
