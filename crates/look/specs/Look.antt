-- A look at one track, without a box: where the next marker is, where an area lies, whether it is readable. Document 01, "What lies on a track" and "Where
-- the head stands"; REFERENCE 10.3, 10.4. DECISIONS 65 to 68.
use Rattle.std.specs.Prelude.{ℕ, Bool, List, [], ◌∷◌, length, eqb, leb, Some, None, Option, Ok, Err, Result}
use Rattle.cells.specs.Cells.{pick, both, either, track_cells, marks}
use Rattle.areas.specs.declared.{Part.Part, Area.Area, Counts.Counts}
use Rattle.areas.specs.Areas.{readable, home_area, count_area, read_count, key_area, data_area}
use Rattle.hunt.specs.Hunt.{hunt}
-- Unseen, why no readable area is seen: WrongCall, Unreadable area, Absent, NotKnown.
use Rattle.look.specs.declared.{Unseen.Unseen}

-- ---- markers

-- what the hunt found on a whole track: the marker's cell, or none from the place on
unfoldable pub marked_by : Option ℕ → Option (Option ℕ)
marked_by f = Some f

-- the first marker at or after a place; on cells that are no track nothing
unfoldable pub marked : List ℕ → ℕ → Option (Option ℕ)
marked t place = pick (eqb (length t) track_cells) (marked_by (hunt (marks t) place)) None

-- the number of each answer: the marker's cell, or one that is no cell
unfoldable pub marked_no : Option (Option ℕ) → ℕ
marked_no (Some (Some p)) = p
marked_no (Some None) = track_cells
marked_no None = 65535

unfoldable pub marker_call : List ℕ → ℕ → ℕ
marker_call t place = marked_no (marked t place)

-- ---- areas

-- what a look finds: a readable area, or why none is seen
abbrev pub Look : Type 0
Look = Result Area Unseen

unfoldable pub looks_at : List ℕ → Area → Look
looks_at t a = pick (readable t a) (Ok a) (Err (Unseen.Unreadable a))

-- of the record whose count area is at c: where its key and data lie is not known unless that is readable; no key if KL = 0
unfoldable pub key_look : List ℕ → ℕ → Option Counts → Look
key_look t c (Some n) = pick (eqb n.kl 0) (Err Unseen.Absent) (looks_at t (key_area c n))
key_look t c None = Err Unseen.NotKnown

unfoldable pub data_look : List ℕ → ℕ → Option Counts → Look
data_look t c (Some n) = looks_at t (data_area c n)
data_look t c None = Err Unseen.NotKnown

unfoldable pub part_look : List ℕ → ℕ → Part → Look
part_look t c Part.Home = looks_at t home_area
part_look t c Part.Count = looks_at t (count_area c)
part_look t c Part.Key = key_look t c (read_count t c)
part_look t c Part.Data = data_look t c (read_count t c)

-- the parts by number, 0 to 3
unfoldable pub part_of : ℕ → Part
part_of p = pick (eqb p 0) Part.Home (pick (eqb p 1) Part.Count (pick (eqb p 2) Part.Key Part.Data))

-- a whole track, two numbers to write, a part, and a record that begins on the track or at its end; the home address is of no record
unfoldable pub call_fits : ℕ → ℕ → ℕ → ℕ → Bool
call_fits cells c p numbers = both (eqb cells track_cells) (both (eqb numbers 2) (both (leb p 3) (either (eqb p 0) (leb c track_cells))))

unfoldable pub look : List ℕ → ℕ → ℕ → List ℕ → Look
look t c p v = pick (call_fits (length t) c p (length v)) (part_look t c (part_of p)) (Err Unseen.WrongCall)

-- the number of each answer
unfoldable pub look_no : Look → ℕ
look_no (Err Unseen.WrongCall) = 0
look_no (Ok a) = 1
look_no (Err (Unseen.Unreadable a)) = 2
look_no (Err Unseen.Absent) = 3
look_no (Err Unseen.NotKnown) = 4

-- where an area lies: its first cell, and its bytes without the check
unfoldable pub lies : Area → List ℕ
lies a = a.first ∷ a.bytes ∷ []

-- what is left in the two numbers
unfoldable pub numbers_left : Look → List ℕ → List ℕ
numbers_left (Ok a) v = lies a
numbers_left (Err (Unseen.Unreadable a)) v = lies a
numbers_left (Err Unseen.WrongCall) v = v
numbers_left (Err Unseen.Absent) v = v
numbers_left (Err Unseen.NotKnown) v = v

pub record Looked : Type 0 where
  pub answer : ℕ
  pub area : List ℕ

abbrev pub looked : ℕ → List ℕ → Looked
looked a v = record { answer = a; area = v }

unfoldable pub looked_of : Look → List ℕ → Looked
looked_of x v = looked (look_no x) (numbers_left x v)

unfoldable pub area_call : List ℕ → ℕ → ℕ → List ℕ → Looked
area_call t c p v = looked_of (look t c p v) v
