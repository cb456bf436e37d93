-- Document 01, "Channel words"; REFERENCE 7.5 to 7.8: the channel about a command. It alone fetches and places bytes, counts what moved and what is left,
-- stores the status word and finds the next word. Of the track it knows only that it is lent on.
use Rattle.std.specs.Prelude.{ℕ, ◌-◌, min, ◌+◌, Bool, true, false, not, List, take, ltb}
use Rattle.cells.specs.Cells.{pick, both, either, part, overlay}
use Rattle.words.specs.declared.{Cause.Cause, Word.Word, Status.Status}
use Rattle.words.specs.Words.{word_bytes, along, chains, suppresses, stored, status_for, program_check}
use Rattle.pack.specs.declared.{Shape.Shape}
use Rattle.held.specs.declared.{Channel.Channel, Held.Held}
use Rattle.held.specs.Held.{rested}
use Rattle.turn.specs.declared.{Ending.Ending, Transfer.Transfer, Report.Report}
use Rattle.turn.specs.Turn.{alone, given, wants, Turn, report_of, is_check, lay}
use Rattle.command.specs.Command.{command}

-- ---- bytes: those at a word's address; those given, placed there, as many as its count says

unfoldable pub fetched : List ℕ → Word → List ℕ
fetched s w = part s w.address w.count

unfoldable pub placed : List ℕ → Word → List ℕ → List ℕ
placed s w v = overlay s w.address (take w.count v)

-- ---- lengths

unfoldable pub bytes_moved : Word → Report → ℕ
bytes_moved w d = min w.count (wants d.transfer)

-- not for No-op, Space Record or Unit Check
unfoldable pub moves_any : Transfer → Bool
moves_any Transfer.None = false
moves_any (Transfer.Gives n) = true
moves_any (Transfer.Takes n) = true

unfoldable pub length_counts : Report → Bool
length_counts d = both (moves_any d.transfer) (not (is_check d.ending))

-- count left is not 0, or the device wanted more, and flag 20 is off
unfoldable pub wrong_length : Word → Report → Bool
wrong_length w d =
    both (length_counts d) (both (not (suppresses w)) (either (ltb (bytes_moved w d) w.count) (ltb w.count (wants d.transfer))))

-- ---- by how it ended

-- normal end 0C, search satisfied 4C, Unit Exception 0D, Unit Check 0E
unfoldable pub unit_status : Ending → ℕ
unit_status Ending.Normal = 0x0C
unit_status Ending.Satisfied = 0x4C
unit_status Ending.Exception = 0x0D
unit_status (Ending.Check row) = 0x0E

-- Unit Exception and Unit Check end the chain
unfoldable pub ends_well : Ending → Bool
ends_well Ending.Normal = true
ends_well Ending.Satisfied = true
ends_well Ending.Exception = false
ends_well (Ending.Check row) = false

-- satisfied: the next command word is 16 on, not 8
unfoldable pub stride : Ending → ℕ
stride Ending.Normal = word_bytes
stride Ending.Satisfied = word_bytes + word_bytes
stride Ending.Exception = word_bytes
stride (Ending.Check row) = word_bytes

-- ---- the end of a command: the chain goes on, or is at its end

unfoldable pub goes_on : Word → Report → Bool
goes_on w d = both (chains w) (both (not (wrong_length w d)) (ends_well d.ending))

-- the channel goes on to a word so many bytes on, which comes after no TIC
unfoldable pub onward : Channel → ℕ → Channel
onward c n = record { going = c.going; key = c.key; next = along c.next n; after_tic = false }

unfoldable pub held_after : Channel → Word → Report → Held
held_after c w d =
    pick (goes_on w d)
    (record { position = d.position; orders = d.orders; channel = onward c (stride d.ending) })
    (rested d.position)

-- count left is count less bytes moved; channel status 40 is incorrect length
unfoldable pub status_after : Channel → Word → Report → Status
status_after c w d =
    status_for c.key c.next (unit_status d.ending) (pick (wrong_length w d) 0x40 0x00) (w.count - bytes_moved w d)

-- the status word is stored last, at the chain's end
unfoldable pub with_status : Channel → Word → Report → List ℕ → List ℕ
with_status c w d s = pick (goes_on w d) s (stored s (status_after c w d))

unfoldable pub storage_after : Channel → Word → Turn → List ℕ → List ℕ
storage_after c w t s = with_status c w (report_of t) (placed s w (given t.moves))

-- ---- all that a word may change: what is held, storage, and cells, of a pack or of one track

pub record World : Type 0 where
  pub held : Held
  pub storage : List ℕ
  pub cells : List ℕ

abbrev pub world : Held → List ℕ → List ℕ → World
world h s c = record { held = h; storage = s; cells = c }

-- ---- a word that is no command

-- a program check ends the chain; sense and the place stand
unfoldable pub stops : World → Cause → World
stops w cause =
    world (rested w.held.position) (stored w.storage (program_check w.held.channel.key w.held.channel.next cause)) w.cells

-- a TIC: the next word is at its address, modulo 2 to the 24 like every next word's
unfoldable pub jumped : Held → ℕ → Held
jumped h a = record {
  position = h.position;
  orders = h.orders;
  channel = record { going = h.channel.going; key = h.channel.key; next = along a 0; after_tic = true };
}

-- ---- a word to obey

-- it is at its end: its command had this turn, and these are the cells then
abbrev pub word_end : World → Word → Turn → List ℕ → World
word_end w d x c = world (held_after w.held.channel d (report_of x)) (storage_after w.held.channel d x w.storage) c

-- on the track under the head alone: the turn of its command, with the bytes at its address sent
unfoldable pub turn_on : Shape → World → Word → Turn
turn_on g w d = command g (alone w.cells) w.held.position w.held.orders d.code (fetched w.storage d)

unfoldable pub obeyed_on : Shape → World → Word → World
obeyed_on g w d = word_end w d (turn_on g w d) (lay (turn_on g w d).lays w.cells)
