-- Document 01, "Channel words", the Unit Check table; REFERENCE 8.1: row by row, sense bytes 0 and 1, and the bytes taken.
use Rattle.std.specs.Prelude.{ℕ}
-- Row: the rows of the table, each named below. Sense: byte0, byte1; bytes 2 to 5 are always zero.
use Rattle.rows.specs.declared.{Row.Row, Sense.Sense}

abbrev pub sense : ℕ → ℕ → Sense
sense b0 b1 = record { byte0 = b0; byte1 = b1 }

unfoldable pub sense_of : Row → Sense
sense_of Row.UnknownCode = sense 0x80 0x00
sense_of Row.BadMask = sense 0x80 0x00
sense_of Row.SecondMask = sense 0x80 0x10
sense_of Row.WrongBefore = sense 0x80 0x10
sense_of Row.SeekBarred = sense 0x00 0x04
sense_of Row.WriteBarred = sense 0x80 0x04
sense_of Row.BadSeek = sense 0x81 0x00
-- an unreadable home address, key or data area; an unreadable count area
sense_of Row.Unreadable = sense 0x08 0x00
sense_of Row.UnreadableCount = sense 0x08 0x80
sense_of Row.NoRoom = sense 0x00 0x40
sense_of Row.NoMarker = sense 0x00 0x02
sense_of Row.SecondIndex = sense 0x00 0x08

-- bytes that a command takes of those sent before the row shows: the column "Bytes moved" is the lesser of this and the count
unfoldable pub row_takes : Row → ℕ
row_takes Row.UnknownCode = 0
row_takes Row.BadMask = 1
row_takes Row.SecondMask = 0
row_takes Row.WrongBefore = 0
row_takes Row.SeekBarred = 0
row_takes Row.WriteBarred = 0
row_takes Row.BadSeek = 6
row_takes Row.Unreadable = 0
row_takes Row.UnreadableCount = 0
row_takes Row.NoRoom = 8
row_takes Row.NoMarker = 0
row_takes Row.SecondIndex = 0
