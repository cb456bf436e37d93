-- Document 01, "Commands" and "Where the head stands"; REFERENCE 4.4, 5.1, 6: one row a command, in the order of its list, and the file mask. A TIC is no
-- command (`words:Words.is_tic`). The columns are the fields of `Rule`: which command must come before; what of the mask bars it; which record it takes;
-- which areas of it are read; what is done then; whether the record is left selected, and whom it then serves; Unit Exception at DL = 0; whether sense is
-- cleared first.
use Rattle.std.specs.Prelude.{ℕ, ◌/◌, ◌%◌, Bool, true, false, List, [], ◌∷◌, get_or, eqb}
use Rattle.cells.specs.Cells.{pick, both}
-- Licence, which command must come before: Any; Look, a search or a read; HomeAddress, Write HA or Search HA equal over its field; WrittenOrEqual, Write
-- R0 or Count Key Data, or 31 or 29 equal over their field; EqualIdOrKey, 31 or 29 so; EqualId, 31 so. Bar: Nothing, Seeks seeking, Writes writing.
-- Seeking: Seek (07), SeekCylinder (0B), SeekHead (1B). Writing, the writes that a mask tells apart: HomeOrR0 (19, 15), CountKeyData (1D), Update (05, 0D).
-- Aim: Stays; HomeAddress or R0, at the index point; NextId, by Search ID's rule; Next; NextForData and NextForKey, the record selected, if the command
-- before serves Read Data, or also Read KD and searches by key, or else the next; Selected. Names, which areas are read: Nothing, HomeAddress, Count key
-- data. Act: Control control, Search how, Read counted (a count's 8 bytes move), Write write. Control, Write: by name; Update key is data, with the key or
-- not. How: IfEqual, IfHigh, IfEqualOrHigh. Serves: Nobody, Data (Read Data), DataAndKey (also Read KD and searches by key).
use Rattle.table.specs.declared.{How.How, Licence.Licence, Seeking.Seeking, Writing.Writing, Bar.Bar, Aim.Aim, Names.Names, Serves.Serves, Control.Control, Write.Write, Act.Act, Rule.Rule}

-- ---- values of the columns

-- of a record: its count, and what else is named
abbrev pub count : Names
count = Names.Count false false

abbrev pub count_key : Names
count_key = Names.Count true false

abbrev pub count_data : Names
count_data = Names.Count false true

abbrev pub count_key_data : Names
count_key_data = Names.Count true true

-- the record is left selected, or is not; DL = 0 is Unit Exception, or may be; a count's 8 bytes move, or do not
abbrev pub selects : Bool
selects = true

abbrev pub selects_none : Bool
selects_none = false

abbrev pub excepts : Bool
excepts = true

abbrev pub accepts : Bool
accepts = false

abbrev pub counted : Bool
counted = true

abbrev pub uncounted : Bool
uncounted = false

-- ---- rows of a family: what all of them have in common is said once

-- a control command clears sense first, or does not: Sense and No-op
abbrev pub plain_row : Licence → Bar → Control → Bool → Rule
plain_row l b a c = record {
  licence = l;
  bar = b;
  aim = Aim.Stays;
  names = Names.Nothing;
  act = Act.Control a;
  selects = selects_none;
  serves = Serves.Nobody;
  excepts = accepts;
  clears = c;
}

abbrev pub quiet_row : Control → Rule
quiet_row a = plain_row Licence.Any Bar.Nothing a false

abbrev pub control_row : Licence → Bar → Control → Rule
control_row l b a = plain_row l b a true

abbrev pub seek_row : Seeking → Rule
seek_row k = control_row Licence.Any (Bar.Seeks k) (Control.Seek k)

-- a search or a read
abbrev pub look_row : Aim → Names → Act → Bool → Serves → Bool → Rule
look_row a n t s v x = record { licence = Licence.Any; bar = Bar.Nothing; aim = a; names = n; act = t; selects = s; serves = v; excepts = x; clears = true }

abbrev pub search_row : Aim → Names → Bool → Serves → How → Rule
search_row a n s v h = look_row a n (Act.Search h) s v accepts

abbrev pub read_row : Aim → Names → Bool → Bool → Serves → Bool → Rule
read_row a n c s v x = look_row a n (Act.Read c) s v x

abbrev pub write_row : Licence → Writing → Aim → Names → Write → Bool → Bool → Rule
write_row l b a n w s x = record {
  licence = l;
  bar = Bar.Writes b;
  aim = a;
  names = n;
  act = Act.Write w;
  selects = s;
  serves = Serves.Nobody;
  excepts = x;
  clears = true;
}

-- ---- the table: a code, and its row

pub record Entry : Type 0 where
  pub code : ℕ
  pub rule : Rule

abbrev pub row : ℕ → Rule → Entry
row c r = record { code = c; rule = r }

-- No-op, Sense, Seek, Seek Cylinder, Seek Head, Set File Mask, Space Record
unfoldable pub controls : List Entry
controls =
    row 0x03 (quiet_row Control.NoOp)
    ∷ row 0x04 (quiet_row Control.Sense)
    ∷ row 0x07 (seek_row Seeking.Seek)
    ∷ row 0x0B (seek_row Seeking.SeekCylinder)
    ∷ row 0x1B (seek_row Seeking.SeekHead)
    ∷ row 0x1F (control_row Licence.Any Bar.Nothing Control.SetMask)
    ∷ row 0x0F (control_row Licence.Look Bar.Nothing Control.SpaceRecord)
    ∷ []

-- Search HA; Search ID equal, high, equal or high; Search Key so: which record, which areas, whether it is left selected, whom it serves, what satisfies
unfoldable pub searches : List Entry
searches =
    row 0x39 (search_row Aim.HomeAddress Names.HomeAddress selects_none Serves.Nobody How.IfEqual)
    ∷ row 0x31 (search_row Aim.NextId count selects Serves.DataAndKey How.IfEqual)
    ∷ row 0x51 (search_row Aim.NextId count selects Serves.DataAndKey How.IfHigh)
    ∷ row 0x71 (search_row Aim.NextId count selects Serves.DataAndKey How.IfEqualOrHigh)
    ∷ row 0x29 (search_row Aim.NextForKey count_key selects Serves.Data How.IfEqual)
    ∷ row 0x49 (search_row Aim.NextForKey count_key selects Serves.Data How.IfHigh)
    ∷ row 0x69 (search_row Aim.NextForKey count_key selects Serves.Data How.IfEqualOrHigh)
    ∷ []

-- Read HA, R0, Count, Data, Key and Data, Count Key Data: which record, which areas, a count's 8 bytes, whether selected, whom it serves, DL = 0
unfoldable pub reads : List Entry
reads =
    row 0x1A (read_row Aim.HomeAddress Names.HomeAddress uncounted selects_none Serves.Nobody accepts)
    ∷ row 0x16 (read_row Aim.R0 count_key_data counted selects_none Serves.Nobody excepts)
    ∷ row 0x12 (read_row Aim.Next count counted selects Serves.DataAndKey accepts)
    ∷ row 0x06 (read_row Aim.NextForData count_data uncounted selects_none Serves.Nobody excepts)
    ∷ row 0x0E (read_row Aim.NextForKey count_key_data uncounted selects_none Serves.Nobody excepts)
    ∷ row 0x1E (read_row Aim.Next count_key_data counted selects_none Serves.Nobody excepts)
    ∷ []

-- Write HA, R0, Count Key Data, Data, Key and Data: the command before, the mask, which record, which areas, what is written, whether selected, DL = 0
unfoldable pub writes : List Entry
writes =
    row 0x19 (write_row Licence.Any Writing.HomeOrR0 Aim.HomeAddress Names.Nothing Write.HomeAddress selects_none accepts)
    ∷ row 0x15 (write_row Licence.HomeAddress Writing.HomeOrR0 Aim.R0 Names.HomeAddress Write.R0 selects accepts)
    ∷ row 0x1D (write_row Licence.WrittenOrEqual Writing.CountKeyData Aim.Selected count Write.CountKeyData selects accepts)
    ∷ row 0x05 (write_row Licence.EqualIdOrKey Writing.Update Aim.Selected count (Write.Update false) selects_none excepts)
    ∷ row 0x0D (write_row Licence.EqualId Writing.Update Aim.Selected count (Write.Update true) selects_none excepts)
    ∷ []

-- any other code
abbrev pub unknown : Rule
unknown = control_row Licence.Any Bar.Nothing Control.Unknown

-- the row of a code, or else this one
unfoldable pub find : ℕ → List Entry → Rule → Rule
find c [] other = other
find c (e ∷ l) other = pick (eqb c e.code) e.rule (find c l other)

unfoldable pub rule_of : ℕ → Rule
rule_of c = find c controls (find c searches (find c reads (find c writes unknown)))

-- ---- which commands belong together

-- a search or a read: what Space Record must follow
unfoldable pub looks : Act → Bool
looks (Act.Control a) = false
looks (Act.Search h) = true
looks (Act.Read c) = true
looks (Act.Write w) = false

-- 19, 15, 1D, 05 or 0D
unfoldable pub is_write : Act → Bool
is_write (Act.Control a) = false
is_write (Act.Search h) = false
is_write (Act.Read c) = false
is_write (Act.Write w) = true

unfoldable pub serves_data : Serves → Bool
serves_data Serves.Nobody = false
serves_data Serves.Data = true
serves_data Serves.DataAndKey = true

unfoldable pub serves_key : Serves → Bool
serves_key Serves.Nobody = false
serves_key Serves.Data = false
serves_key Serves.DataAndKey = true

-- home address work
unfoldable pub is_home : Aim → Bool
is_home Aim.Stays = false
is_home Aim.HomeAddress = true
is_home Aim.R0 = false
is_home Aim.NextId = false
is_home Aim.Next = false
is_home Aim.NextForData = false
is_home Aim.NextForKey = false
is_home Aim.Selected = false

-- ---- the file mask: which bytes are masks, and what a mask bars. Bit 0 is the leftmost

-- bits 0 and 1, and bits 3 and 4, each pair a number 0 to 3
abbrev pub write_bits : ℕ → ℕ
write_bits m = m / 64

abbrev pub seek_bits : ℕ → ℕ
seek_bits m = m / 8 % 4

-- the other bits, 2 and 5 to 7, must be 0
unfoldable pub is_mask : ℕ → Bool
is_mask m = both (eqb (m / 32 % 2) 0) (eqb (m % 8) 0)

-- whether writing is barred with bits 0 and 1 at 00, 01, 10, 11, in that order
unfoldable pub writes_barred : Writing → List Bool
writes_barred Writing.HomeOrR0 = true ∷ true ∷ true ∷ false ∷ []
writes_barred Writing.CountKeyData = false ∷ true ∷ true ∷ false ∷ []
writes_barred Writing.Update = false ∷ true ∷ false ∷ false ∷ []

-- whether seeking is barred with bits 3 and 4 at 00, 01, 10, 11, in that order
unfoldable pub seeks_barred : Seeking → List Bool
seeks_barred Seeking.Seek = false ∷ true ∷ true ∷ true ∷ []
seeks_barred Seeking.SeekCylinder = false ∷ false ∷ true ∷ true ∷ []
seeks_barred Seeking.SeekHead = false ∷ false ∷ false ∷ true ∷ []

unfoldable pub bars_write : ℕ → Writing → Bool
bars_write m w = get_or (writes_barred w) (write_bits m) false

unfoldable pub bars_seek : ℕ → Seeking → Bool
bars_seek m s = get_or (seeks_barred s) (seek_bits m) false
