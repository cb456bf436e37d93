-- Document 01, "Channel words"; REFERENCE 7.1 to 7.4, 7.8: the address word, command words, program checks in their order, the status word.
use Rattle.std.specs.Prelude.{ℕ, ◌+◌, ◌≤◌, ◌/◌, ◌%◌, ◌*◌, ◌<◌, Bool, List, [], ◌∷◌, length, get_or, ltb, leb, eqb, Some, None, Ok, Err, Option, Result}
use Rattle.cells.specs.Cells.{pick, both, be16, be24, overlay}
-- Word: code, address, flags, count. Status: key, address, unit, channel, left. Directive, what a word says that passes its tests: Obey word,
-- or Jump address (a TIC). Cause: the tests below, by their names.
use Rattle.words.specs.declared.{Word.Word, Cause.Cause, Status.Status, Directive.Directive}

-- HOUSE: every next word's address, and the status word's, is taken modulo 2 to the 24
abbrev pub addresses : ℕ
addresses = 16777216

abbrev pub along : ℕ → ℕ → ℕ
along at by = (at + by) % addresses

-- ---- the address word, at 72: key, four zero bits, 24-bit address

abbrev pub address_word : ℕ
address_word = 72

unfoldable pub begun_by : List ℕ → Option (ℕ × ℕ)
begun_by s =
    pick (eqb (get_or s address_word 0 % 16) 0) (Some (get_or s address_word 0 / 16, be24 s (address_word + 1))) None

-- ---- a command word, 8 bytes: code, address (3), flags, an ignored byte, count (2)

abbrev pub word_bytes : ℕ
word_bytes = 8

unfoldable pub word_at : List ℕ → ℕ → Word
word_at s at = record {
  code = get_or s at 0;
  address = be24 s (at + 1);
  flags = get_or s (at + 4) 0;
  count = be16 s (at + 6);
}

-- flag 40 chains commands, 20 suppresses incorrect length
abbrev pub chains : Word → Bool
chains w = eqb (w.flags / 64 % 2) 1

abbrev pub suppresses : Word → Bool
suppresses w = eqb (w.flags / 32 % 2) 1

-- x8 is a transfer in channel, for any x
abbrev pub is_tic : Word → Bool
is_tic w = eqb (w.code % 16) 8

-- ---- program checks

-- on a multiple of 8, and inside storage
abbrev pub in_place : List ℕ → ℕ → Bool
in_place s at = both (eqb (at % word_bytes) 0) (leb (at + word_bytes) (length s))

-- no flags but 40 and 20
abbrev pub flags_known : Word → Bool
flags_known w = both (ltb w.flags 128) (eqb (w.flags % 32) 0)

-- the tests of a word that is no TIC, in order; no later test is made
unfoldable pub tested_command : List ℕ → Word → Result Directive Cause
tested_command s w =
    pick (flags_known w)
    (pick (ltb 0 w.count)
    (pick (ltb 0 (w.code % 16))
    (pick (leb (w.address + w.count) (length s))
    (Ok (Directive.Obey w))
    (Err Cause.Area))
    (Err Cause.Code))
    (Err Cause.NoCount))
    (Err Cause.Flags)

-- the tests of a word after a TIC or not
unfoldable pub tested_word : List ℕ → Bool → Word → Result Directive Cause
tested_word s after_tic w =
    pick (is_tic w) (pick after_tic (Err Cause.TicAfterTic) (Ok (Directive.Jump w.address))) (tested_command s w)

-- the tests of the word at an address of storage
unfoldable pub tested : List ℕ → ℕ → Bool → Result Directive Cause
tested s at after_tic = pick (in_place s at) (tested_word s after_tic (word_at s at)) (Err Cause.Place)

-- the word's area lies in storage, as its tests made sure
pub record AreaFits (s : List ℕ) (w : Word) : Type 0 where
  pub area : w.address + w.count ≤ length s

-- stored at 64: key and zeros, address, unit status, channel status, count left
abbrev pub status_at : ℕ
status_at = 64

abbrev pub status_bytes : Status → List ℕ
status_bytes x =
    x.key * 16
    ∷ x.address / 65536
    ∷ x.address / 256 % 256
    ∷ x.address % 256
    ∷ x.unit
    ∷ x.channel
    ∷ x.left / 256
    ∷ x.left % 256
    ∷ []

-- what a status word needs to be stored: storage that reaches so far, a key of four bits, an address of 24
pub record Storable (s : List ℕ) (x : Status) : Type 0 where
  pub reaches : status_at + word_bytes ≤ length s
  pub key : x.key < 16
  pub address : x.address < addresses

unfoldable pub stored : List ℕ → Status → List ℕ
stored s x = overlay s status_at (status_bytes x)

-- a status word's address is that of the last command word + 8
unfoldable pub status_for : ℕ → ℕ → ℕ → ℕ → ℕ → Status
status_for key at unit channel left = record {
  key = key;
  address = along at word_bytes;
  unit = unit;
  channel = channel;
  left = left;
}

-- the channel status of a program check, by its cause
unfoldable pub channel_for : Cause → ℕ
channel_for Cause.Place = 0x20
channel_for Cause.TicAfterTic = 0x20
channel_for Cause.Flags = 0x20
channel_for Cause.NoCount = 0x20
channel_for Cause.Code = 0x20
channel_for Cause.Area = 0x20

-- a program check's status word: unit status 00, HOUSE count 0
unfoldable pub program_check : ℕ → ℕ → Cause → Status
program_check key at cause = status_for key at 0x00 (channel_for cause) 0
