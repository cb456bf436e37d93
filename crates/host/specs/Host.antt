-- Document 01, "What the host hears"; REFERENCE 9: the answers, the refusals in their order, a start, and going on.
use Rattle.std.specs.Prelude.{ℕ, Bool, true, false, [], ◌∷◌, length, Some, None, Ok, Err, Result, Option}
use Rattle.cells.specs.Cells.{pick, overlay}
use Rattle.words.specs.Words.{along, begun_by, tested}
use Rattle.pack.specs.declared.{Shape.Shape}
use Rattle.pack.specs.Pack.{pack_fits}
use Rattle.held.specs.declared.{Held.Held}
use Rattle.held.specs.Held.{fresh}
use Rattle.channel.specs.Channel.{World, world}
use Rattle.chain.specs.Step.{run, storage_fits, held_fits}
-- Answer: the table's, each below with its number. (`Heard`, in contracts alone: answer, held.)
use Rattle.host.specs.declared.{Answer.Answer}
use Rattle.words.specs.declared.{Directive.Directive, Cause.Cause}

-- document 01's number of each answer
unfoldable pub answer_no : Answer → ℕ
answer_no Answer.ChainEnded = 0
answer_no Answer.AllowanceUsed = 1
answer_no Answer.BadStorage = 2
answer_no Answer.BadPack = 3
answer_no Answer.BadHeld = 4
answer_no Answer.BadStart = 5
answer_no Answer.NoChain = 6
answer_no Answer.ChainGoing = 7

-- an answer, and all that is left
pub record Hears : Type 0 where
  pub answer : Answer
  pub left : World

abbrev pub hears : Answer → World → Hears
hears a w = record { answer = a; left = w }

-- none of the refusals of any call
abbrev pub no_refusal : Result (Unit {0}) Answer
no_refusal = Ok tt

-- ---- refusals 2, 3 and 4, in order

-- the first two
unfoldable pub guard_sizes : Shape → ℕ → ℕ → Result (Unit {0}) Answer
guard_sizes g s c = pick (storage_fits s) (pick (pack_fits g c) no_refusal (Err Answer.BadPack)) (Err Answer.BadStorage)

unfoldable pub guard_of : Shape → World → Result (Unit {0}) Answer
guard_of g w =
    pick (storage_fits (length w.storage))
    (pick (pack_fits g (length w.cells))
    (pick (held_fits g w) no_refusal (Err Answer.BadHeld))
    (Err Answer.BadPack))
    (Err Answer.BadStorage)

-- bytes that encode no held state: refusal 4, in its place after 2 and 3
unfoldable pub wrong_held : Shape → ℕ → ℕ → Answer
wrong_held g s c = pick (storage_fits s) (pick (pack_fits g c) Answer.BadHeld Answer.BadPack) Answer.BadStorage

-- a refusal leaves all unchanged
unfoldable pub guards : Result (Unit {0}) Answer → World → Hears → Hears
guards (Ok tt) w x = x
guards (Err a) w x = hears a w

-- what holds of the words of a call that passes: a refused one runs none
unfoldable pub if_passes : Result (Unit {0}) Answer → Bool → Bool
if_passes (Ok tt) b = b
if_passes (Err a) b = true

-- ---- a start

-- 5: bytes 68 and 69 become 00 20, no chain, all else unchanged
unfoldable pub refuses_start : World → Hears
refuses_start w = hears Answer.BadStart (world w.held (overlay w.storage 68 (0x00 ∷ 0x20 ∷ [])) w.cells)

-- a good start resets all but cylinder, head, place and sense
unfoldable pub beginning : Held → ℕ → ℕ → Held
beginning h key next = record {
  position = h.position;
  orders = fresh.orders;
  channel = record { going = true; key = key; next = next; after_tic = false };
}

-- the first word is tested, and nothing runs
unfoldable pub first_word : World → ℕ → ℕ → Result Directive Cause → Hears
first_word w key next (Ok (Directive.Obey d)) = hears Answer.AllowanceUsed (world (beginning w.held key next) w.storage w.cells)
first_word w key next (Ok (Directive.Jump a)) = refuses_start w
first_word w key next (Err cause) = refuses_start w

-- by what is held once it has begun
unfoldable pub started : World → Option Held → Hears
started w (Some h) = hears Answer.AllowanceUsed (world h w.storage w.cells)
started w None = refuses_start w

unfoldable pub begins : World → Option (ℕ × ℕ) → Hears
begins w (Some (key, first)) = first_word w key (along first 0) (tested w.storage (along first 0) false)
begins w None = refuses_start w

-- 7: with one going
unfoldable pub starts : Shape → World → Hears
starts g w =
    guards (guard_of g w) w
    (pick w.held.channel.going (hears Answer.ChainGoing w) (begins w (begun_by w.storage)))

-- ---- going on

-- 0: chain ended; 1: allowance used, not ended
unfoldable pub ran : World → Hears
ran w = hears (pick w.held.channel.going Answer.AllowanceUsed Answer.ChainEnded) w

-- 6: with no chain
unfoldable pub goes : Shape → ℕ → World → Hears
goes g n w =
    guards (guard_of g w) w (pick w.held.channel.going (ran (run g n w)) (hears Answer.NoChain w))
