-- Document 01, "Where the head stands" and "Commands"; REFERENCE 4, 5, 8.2: the one way that every command goes, by its row of the table: which record it
-- works on, which areas it reads there, what it does with them. The rows of the Unit Check table come in its order.
use Rattle.std.specs.Prelude.{ℕ, ◌+◌, ◌-◌, ◌/◌, ◌%◌, ◌≡◌, Bool, true, false, List, [], ◌∷◌, ◌++◌, map, length, get_or, take, drop, replicate, ltb, leb, eqb, Option, Ok, Err, Result}
use Rattle.cells.specs.Cells.{pick, both, either, be16, number, part, padded, track_cells, marker, gap, marks}
use Rattle.rows.specs.declared.{Row.Row, Sense.Sense}
use Rattle.house_check.specs.Check.{cells_with_check}
use Rattle.areas.specs.declared.{Area.Area, Part.Part, Counts.Counts}
use Rattle.areas.specs.Areas.{readable, area_bytes, row_of, home_area, home_bytes, r0_first, count_area, counts_at, read_count, key_area, data_area, record_cells, end_by, needed, flag_of_r0, flag_after}
use Rattle.hunt.specs.declared.{Spot.Spot}
use Rattle.hunt.specs.Hunt.{spot_fits, count_first, next_record, next_id, space_record}
use Rattle.room.specs.Room.{fits}
use Rattle.recording.specs.Recording.{count_sent}
use Rattle.std.specs.declared.cmp.Ordering.{Ordering}
use Rattle.compare.specs.Compare.{compared}
use Rattle.pack.specs.declared.{Cylinder.Cylinder, Head.Head, Shape.Shape}
use Rattle.pack.specs.Pack.{cylinder, head, seek_to, seek_head}
use Rattle.held.specs.declared.{Position.Position, Orders.Orders}
use Rattle.held.specs.Held.{no_sense}
use Rattle.format.specs.Format.{recorded, new_counts, new_record}
use Rattle.table.specs.declared.{How.How, Licence.Licence, Bar.Bar, Aim.Aim, Names.Names, Control.Control, Write.Write, Act.Act, Rule.Rule, Seeking.Seeking}
use Rattle.table.specs.Table.{rule_of, looks, serves_data, serves_key, is_home, is_mask, bars_seek, bars_write}
use Rattle.turn.specs.declared.{Ending.Ending}
use Rattle.turn.specs.Turn.{Tracks, TrackArea, Piece, Moves, None, Gives, Takes, Turn, turn, position_at, position_sought, orders_of, after, check_turn}
-- Task, where it works: head, place (after its work; of a record the first cell of its count area), selection, tally. Job, a
-- command that has read all that it names: code; of its row act, names, excepts, clears; position, orders, task, counts. Where a row of the Unit Check table
-- ends a command first, that row is the error.
use Rattle.command.specs.declared.{Task.Task, Job.Job}

-- ==== which record it works on. Of the tracks only the markers are seen

abbrev pub Marks : Type 0
Marks = Head → List Bool

unfoldable pub marks_of : Tracks → Marks
marks_of t h = marks (t h)

-- which command before, and whether its search was equal over the whole field (DECISIONS 15a, 28): 31 equal so
unfoldable pub equal_id : ℕ → Bool → Bool
equal_id before whole = both whole (eqb before 0x31)

-- 31 or 29, equal so
unfoldable pub equal_id_or_key : ℕ → Bool → Bool
equal_id_or_key before whole = both whole (either (eqb before 0x31) (eqb before 0x29))

-- Write HA, or Search HA equal so
unfoldable pub home_done : ℕ → Bool → Bool
home_done before whole = either (eqb before 0x19) (both whole (eqb before 0x39))

-- Write R0 or Write Count Key Data
unfoldable pub record_written : ℕ → Bool
record_written before = either (eqb before 0x15) (eqb before 0x1D)

unfoldable pub licensed : Licence → Orders → Bool
licensed Licence.Any o = true
licensed Licence.Look o = looks (rule_of o.before).act
licensed Licence.HomeAddress o = home_done o.before o.whole
licensed Licence.WrittenOrEqual o = either (record_written o.before) (equal_id_or_key o.before o.whole)
licensed Licence.EqualIdOrKey o = equal_id_or_key o.before o.whole
licensed Licence.EqualId o = equal_id o.before o.whole

abbrev pub task : Head → ℕ → Option Spot → ℕ → Task
task h p x n = record { head = h; place = p; selection = x; tally = n }

-- after home address work the place is 1; Search ID and Key may pass one index point in a row
abbrev pub home_place : ℕ
home_place = 1

abbrev pub most_tally : ℕ
most_tally = 1

-- the selected record is one of the track
unfoldable pub SelectedOn : List Bool → Option Spot → Type 0
SelectedOn m Option.None = Unit {0}
SelectedOn m (Option.Some spot) = spot_fits m spot ≡ true

-- Search ID and Key count the index points that they pass in a row; any other command sets the tally to 0
unfoldable pub tallies : Act → Bool
tallies (Act.Control a) = false
tallies (Act.Search h) = true
tallies (Act.Read c) = false
tallies (Act.Write w) = false

-- a record that the head came to past so many index points
unfoldable pub on_record : Rule → Orders → Head → Spot → ℕ → Result Task Row
on_record r o h spot n =
    pick (both (tallies r.act) (ltb most_tally (o.tally + n))) (Err Row.SecondIndex)
    (Ok (task h (count_first spot) (pick r.selects (Option.Some spot) Option.None) (pick (tallies r.act) (o.tally + n) 0)))

unfoldable pub on_next : Rule → Orders → Head → Option (Spot × ℕ) → Result Task Row
on_next r o h (Option.Some (spot, n)) = on_record r o h spot n
on_next r o h Option.None = Err Row.NoMarker

-- the record selected, or else
unfoldable pub on_selected : Rule → Orders → Head → Option Spot → Result Task Row → Result Task Row
on_selected r o h Option.None other = other
on_selected r o h (Option.Some spot) other = on_record r o h spot 0

-- the next record on the track under the head
unfoldable pub to_next : Rule → Marks → Position → Orders → Result Task Row
to_next r m s o = on_next r o s.head (next_record (m s.head) s.place)

-- the record selected, where the command before serves this one, or else the next
unfoldable pub to_served : Rule → Marks → Position → Orders → Bool → Result Task Row
to_served r m s o serves = pick serves (on_selected r o s.head o.selection (to_next r m s o)) (to_next r m s o)

unfoldable pub aimed : Rule → Marks → Position → Orders → Aim → Result Task Row
aimed r m s o Aim.Stays = Ok (task s.head s.place Option.None 0)
aimed r m s o Aim.HomeAddress = Ok (task s.head home_place Option.None 0)
aimed r m s o Aim.R0 = on_record r o s.head Spot.R0 0
aimed r m s o Aim.NextId = on_next r o s.head (next_id (m s.head) s.place)
aimed r m s o Aim.Next = to_next r m s o
aimed r m s o Aim.NextForData = to_served r m s o (serves_data (rule_of o.before).serves)
aimed r m s o Aim.NextForKey = to_served r m s o (serves_key (rule_of o.before).serves)
aimed r m s o Aim.Selected = on_selected r o s.head o.selection (Err Row.WrongBefore)

-- seek barred, write barred
unfoldable pub unless_barred : Bar → ℕ → Result Task Row → Result Task Row
unless_barred Bar.Nothing m x = x
unless_barred (Bar.Seeks k) m x = pick (bars_seek m k) (Err Row.SeekBarred) x
unless_barred (Bar.Writes k) m x = pick (bars_write m k) (Err Row.WriteBarred) x

-- the rows in order: wrong command before; barred; no marker, second index
unfoldable pub plan_of : Rule → Marks → Position → Orders → Result Task Row
plan_of r m s o = pick (licensed r.licence o) (unless_barred r.bar o.mask (aimed r m s o r.aim)) (Err Row.WrongBefore)

-- ==== which areas it reads: of the home address, or of the record whose count area is at c

unfoldable pub area_if : Bool → Area → List Area
area_if b a = pick b (a ∷ []) []

-- key and data, if they are named and there
unfoldable pub named : ℕ → Bool → Bool → Counts → List Area
named c key body n = area_if (both key (ltb 0 n.kl)) (key_area c n) ++ area_if (both body (ltb 0 n.dl)) (data_area c n)

-- by what the count area says; one that is not readable names nothing
unfoldable pub named_by : ℕ → Bool → Bool → Option Counts → List Area
named_by c key body (Option.Some n) = named c key body n
named_by c key body Option.None = []

unfoldable pub on_head : Head → List Area → List TrackArea
on_head h l = map (λ (a : Area). record { head = h; area = a }) l

unfoldable pub areas_of : Names → Tracks → Head → ℕ → List TrackArea
areas_of Names.Nothing t h c = []
areas_of Names.HomeAddress t h c = on_head h (home_area ∷ [])
areas_of (Names.Count key body) t h c = on_head h (count_area c ∷ named_by c key body (read_count (t h) c))

-- where a task works: what the command reads, however it ends
abbrev pub areas_at : Names → Tracks → Task → List TrackArea
areas_at n t k = areas_of n t k.head k.place

-- all are checked before any byte moves: the row of the first that is not readable, or else x
unfoldable pub all_read : Tracks → List TrackArea → Result Counts Row → Result Counts Row
all_read t [] x = x
all_read t (a ∷ l) x = pick (readable (t a.head) a.area) (all_read t l x) (Err (row_of a.area.part))

-- what the count area says; the home address has none
abbrev pub no_counts : Counts
no_counts = record { flag = 0; cc = 0; hh = 0; r = 0; kl = 0; dl = 0 }

unfoldable pub counts_in : Names → Tracks → Head → ℕ → Counts
counts_in Names.Nothing t h c = no_counts
counts_in Names.HomeAddress t h c = no_counts
counts_in (Names.Count key body) t h c = counts_at (t h) c

unfoldable pub gets : Names → Tracks → Head → ℕ → Result Counts Row
gets n t h c = all_read t (areas_of n t h c) (Ok (counts_in n t h c))

-- the bytes of areas, part by part; a count area's are its counts
pub record Seen : Type 0 where
  pub home : List ℕ
  pub key : List ℕ
  pub body : List ℕ

abbrev pub seen : List ℕ → List ℕ → List ℕ → Seen
seen h k b = record { home = h; key = k; body = b }

unfoldable pub seen_with : Part → List ℕ → Seen → Seen
seen_with Part.Home v x = seen v x.key x.body
seen_with Part.Count v x = x
seen_with Part.Key v x = seen x.home v x.body
seen_with Part.Data v x = seen x.home x.key v

unfoldable pub seen_of : Tracks → List TrackArea → Seen
seen_of t [] = seen [] [] []
seen_of t (a ∷ l) = seen_with a.area.part (area_bytes (t a.head) a.area) (seen_of t l)

-- ==== what it does then

-- the areas that an update goes over must be byte cells, whatever their check
unfoldable pub writes_over : Write → ℕ → Counts → List Area
writes_over Write.HomeAddress c n = []
writes_over Write.R0 c n = []
writes_over Write.CountKeyData c n = []
writes_over (Write.Update key) c n = named c key true n

unfoldable pub goes_over : Act → ℕ → Counts → List Area
goes_over (Act.Control a) c n = []
goes_over (Act.Search h) c n = []
goes_over (Act.Read counted) c n = []
goes_over (Act.Write w) c n = writes_over w c n

unfoldable pub all_recorded : List ℕ → List Area → Bool
all_recorded t [] = true
all_recorded t (a ∷ l) = both (recorded t a) (all_recorded t l)

-- what a command sees when it acts: the job, the bytes sent, the bytes of the areas that it read; of the track itself only the markers, and whether the
-- cells that it goes over are byte cells
pub record Sight : Type 0 where
  pub job : Job
  pub sent : List ℕ
  pub reads : List TrackArea
  pub seen : Seen
  pub marks : List Bool
  pub recorded : Bool

unfoldable pub areas_read : Tracks → Job → List TrackArea
areas_read t j = areas_at j.names t j.task

unfoldable pub sight : Tracks → Job → List ℕ → Sight
sight t j v = record {
  job = j;
  sent = v;
  reads = areas_read t j;
  seen = seen_of t (areas_read t j);
  marks = marks (t j.task.head);
  recorded = all_recorded (t j.task.head) (goes_over j.act j.task.place j.counts);
}

-- the job does and names what its code's row says, all areas that it names were readable, and its counts are those of the count area
pub record Sighted (t : Tracks) (j : Job) : Type 0 where
  pub act : j.act ≡ (rule_of j.code).act
  pub names : j.names ≡ (rule_of j.code).names
  pub sees : gets j.names t j.task.head j.task.place ≡ Ok j.counts

-- ---- how it ends

unfoldable pub fail_turn : Sight → Row → Turn
fail_turn x row = check_turn x.job.position x.job.orders x.reads row

-- commands but Sense and No-op clear sense first
unfoldable pub sense_after : Job → Sense
sense_after j = pick j.clears no_sense j.position.sense

unfoldable pub position_after : Job → Task → Position
position_after j k = position_at j.position.cylinder k.head k.place (sense_after j)

-- this command is the one before the next; whether its search was equal over the whole field
unfoldable pub orders_after : Job → Task → Bool → Orders
orders_after j k whole = after j.orders j.code whole k.tally k.selection

-- at the place of a task, by default its own
unfoldable pub end_turn_at : Sight → Task → Ending → Moves → List Piece → Bool → Turn
end_turn_at x k e m l whole = turn e m x.reads l (position_after x.job k) (orders_after x.job k whole)

unfoldable pub end_turn : Sight → Ending → Moves → List Piece → Bool → Turn
end_turn x e m l whole = end_turn_at x x.job.task e m l whole

-- DL = 0, where the row says so: Unit Exception
unfoldable pub ending_of : Job → Ending
ending_of j = pick (both j.excepts (eqb j.counts.dl 0)) Ending.Exception Ending.Normal

-- ---- 03 No-op

unfoldable pub no_op_turn : Sight → Turn
no_op_turn x = end_turn x Ending.Normal None [] false

-- ---- 04 Sense: 6 bytes, bytes 2 to 5 zero

unfoldable pub sense_bytes : Position → List ℕ
sense_bytes s = s.sense.byte0 ∷ s.sense.byte1 ∷ 0 ∷ 0 ∷ 0 ∷ 0 ∷ []

unfoldable pub sense_turn : Sight → Turn
sense_turn x = end_turn x Ending.Normal (Gives (sense_bytes x.job.position)) [] false

-- ---- 07 Seek, 0B Seek Cylinder, 1B Seek Head: 6 bytes BB CC HH

abbrev pub seek_bytes : ℕ
seek_bytes = 6

unfoldable pub sought_by : Shape → Seeking → Cylinder → List ℕ → Result (Cylinder × Head) Row
sought_by g Seeking.Seek c v = seek_to g (be16 v 0) (cylinder (be16 v 2)) (head (be16 v 4))
sought_by g Seeking.SeekCylinder c v = seek_to g (be16 v 0) (cylinder (be16 v 2)) (head (be16 v 4))
sought_by g Seeking.SeekHead c v = seek_head g c (head (be16 v 4))

-- bad or short
unfoldable pub addressed : Shape → Seeking → Cylinder → List ℕ → Result (Cylinder × Head) Row
addressed g k c v = pick (ltb (length v) seek_bytes) (Err Row.BadSeek) (sought_by g k c v)

unfoldable pub arrival_turn : Sight → Result (Cylinder × Head) Row → Turn
arrival_turn x (Ok (c, h)) = turn Ending.Normal (Takes seek_bytes) x.reads [] (position_sought c h) (orders_after x.job x.job.task false)
arrival_turn x (Err row) = fail_turn x row

unfoldable pub seek_turn : Shape → Seeking → Sight → Turn
seek_turn g k x = arrival_turn x (addressed g k x.job.position.cylinder x.sent)

-- ---- 1F Set File Mask: a bad byte, then a second mask

abbrev pub mask_bytes : ℕ
mask_bytes = 1

unfoldable pub masked_turn : Sight → ℕ → Turn
masked_turn x byte =
    turn Ending.Normal (Takes mask_bytes) x.reads [] (position_after x.job x.job.task) (orders_of byte true x.job.code false 0 Option.None)

unfoldable pub mask_turn : Sight → ℕ → Turn
mask_turn x byte = pick (is_mask byte) (pick x.job.orders.mask_set (fail_turn x Row.SecondMask) (masked_turn x byte)) (fail_turn x Row.BadMask)

-- ---- 0F Space Record: after home address work 7, else past the next marker without reading

unfoldable pub spaced_place : Sight → ℕ
spaced_place x = space_record x.marks x.job.position.place (is_home (rule_of x.job.orders.before).aim)

unfoldable pub space_turn : Sight → Turn
space_turn x = end_turn_at x (task x.job.task.head (spaced_place x) Option.None 0) Ending.Normal None [] false

-- ---- searches: the first m bytes, m the smaller of the bytes sent and the field, as unsigned numbers

-- an ID, CCHHR
unfoldable pub id_of : ℕ → ℕ → ℕ → List ℕ
id_of cc hh r = cc / 256 ∷ cc % 256 ∷ hh / 256 ∷ hh % 256 ∷ r ∷ []

abbrev pub flag_bytes : ℕ
flag_bytes = 1

abbrev pub id_bytes : ℕ
id_bytes = 5

-- the field: of the home address its last 4 bytes, the key if it is named, or else the ID, CCHHR
unfoldable pub field_of : Names → Counts → Seen → List ℕ
field_of Names.Nothing n x = []
field_of Names.HomeAddress n x = drop flag_bytes x.home
field_of (Names.Count key body) n x = pick key x.key (id_of n.cc n.hh n.r)

unfoldable pub comparison : List ℕ → List ℕ → Ordering
comparison f v = compared (number (take (length v) f)) (number (take (length f) v))

-- high means the track's is higher
unfoldable pub satisfies : How → Ordering → Bool
satisfies How.IfEqual Ordering.Less = false
satisfies How.IfEqual Ordering.Equal = true
satisfies How.IfEqual Ordering.Greater = false
satisfies How.IfHigh Ordering.Less = false
satisfies How.IfHigh Ordering.Equal = false
satisfies How.IfHigh Ordering.Greater = true
satisfies How.IfEqualOrHigh Ordering.Less = false
satisfies How.IfEqualOrHigh Ordering.Equal = true
satisfies How.IfEqualOrHigh Ordering.Greater = true

-- a field of no bytes (KL = 0) satisfies nothing
unfoldable pub satisfies_field : How → Ordering → ℕ → Bool
satisfies_field h x n = both (ltb 0 n) (satisfies h x)

unfoldable pub equal_only : How → Bool
equal_only How.IfEqual = true
equal_only How.IfHigh = false
equal_only How.IfEqualOrHigh = false

unfoldable pub satisfied : How → List ℕ → List ℕ → Bool
satisfied h f v = satisfies_field h (comparison f v) (length f)

-- equal over the whole field, by an equal-only search: what licenses a write
unfoldable pub wholly : How → List ℕ → List ℕ → Bool
wholly h f v = both (equal_only h) (both (leb (length f) (length v)) (satisfied h f v))

-- it moves the m bytes and wants its whole field
unfoldable pub field_turn : How → Sight → List ℕ → Turn
field_turn h x f = end_turn x (pick (satisfied h f x.sent) Ending.Satisfied Ending.Normal) (Takes (length f)) [] (wholly h f x.sent)

unfoldable pub search_turn : How → Sight → Turn
search_turn h x = field_turn h x (field_of x.job.names x.job.counts x.seen)

-- ---- reads: the home address's 5 bytes; of a record the count's 8, key and data where they are named and there

-- counts move as the 8 bytes CCHHR, KL, DL
unfoldable pub count_moved : Counts → List ℕ
count_moved n = id_of n.cc n.hh n.r ++ (n.kl ∷ n.dl / 256 ∷ n.dl % 256 ∷ [])

unfoldable pub offered : Names → Bool → Counts → Seen → List ℕ
offered Names.Nothing counted n x = []
offered Names.HomeAddress counted n x = x.home
offered (Names.Count key body) counted n x = pick counted (count_moved n) [] ++ (pick key x.key [] ++ pick body x.body [])

unfoldable pub read_turn : Bool → Sight → Turn
read_turn counted x =
    end_turn x (ending_of x.job) (Gives (offered x.job.names counted x.job.counts x.seen)) [] false

-- ---- writes: missing bytes are zeros, surplus is not fetched. 19, 15 and 1D make all later cells 0

unfoldable pub piece : Sight → ℕ → List ℕ → Piece
piece x first v = record { head = x.job.task.head; first = first; cells = v }

unfoldable pub to_end : ℕ → List ℕ → List ℕ
to_end first v = v ++ replicate (track_cells - (first + length v)) gap

-- 19
unfoldable pub home_turn : Sight → Turn
home_turn x = end_turn x Ending.Normal (Takes home_bytes) (piece x 0 (to_end 0 (cells_with_check (padded home_bytes x.sent))) ∷ []) false

-- count, key and data of a new record; until its count is sent, 8 bytes
unfoldable pub record_takes : List ℕ → Counts → ℕ
record_takes v n = pick (ltb (length v) count_sent) count_sent (count_sent + n.kl + n.dl)

-- a new record, from a cell on, if it has room for so many cells there; where the task is then
unfoldable pub new_turn : Sight → Task → ℕ → Counts → ℕ → List ℕ → Turn
new_turn x k first n need v =
    pick (fits first need) (end_turn_at x k Ending.Normal (Takes (record_takes x.sent n)) (piece x first (to_end first v) ∷ []) false) (fail_turn x Row.NoRoom)

-- 15: behind the home address
unfoldable pub r0_turn : Sight → ℕ → Turn
r0_turn x flag =
    new_turn x x.job.task r0_first (new_counts flag x.sent) (record_cells (new_counts flag x.sent)) (new_record flag x.sent)

-- 1D: behind the record that it follows, its marker first; it is selected, and the place after it
unfoldable pub record_turn : Sight → ℕ → ℕ → Turn
record_turn x at flag =
    new_turn x (task x.job.task.head (at + 1) (Option.Some (Spot.Marker at)) 0) at (new_counts flag x.sent) (needed (new_counts flag x.sent))
    (marker ∷ new_record flag x.sent)

-- 05 and 0D: an area of n bytes, if there are any, of those sent from one on
unfoldable pub over_piece : Sight → Area → ℕ → ℕ → List Piece
over_piece x a from n = pick (ltb 0 n) (piece x a.first (cells_with_check (padded n (part x.sent from n))) ∷ []) []

-- bytes of the key that are sent
unfoldable pub key_sent : Bool → Counts → ℕ
key_sent key n = pick key n.kl 0

unfoldable pub update_turn : Bool → Sight → ℕ → Counts → Turn
update_turn key x c n =
    pick x.recorded
    (end_turn x (ending_of x.job) (Takes (key_sent key n + n.dl))
    (over_piece x (key_area c n) 0 (key_sent key n) ++ over_piece x (data_area c n) (key_sent key n) n.dl) false)
    (fail_turn x Row.Unreadable)

-- ---- all of them

unfoldable pub control_turn : Shape → Control → Sight → Turn
control_turn g Control.Unknown x = fail_turn x Row.UnknownCode
control_turn g Control.NoOp x = no_op_turn x
control_turn g Control.Sense x = sense_turn x
control_turn g (Control.Seek k) x = seek_turn g k x
control_turn g Control.SetMask x = mask_turn x (get_or x.sent 0 0)
control_turn g Control.SpaceRecord x = space_turn x

unfoldable pub write_turn : Write → Sight → Turn
write_turn Write.HomeAddress x = home_turn x
write_turn Write.R0 x = r0_turn x (flag_of_r0 (get_or x.seen.home 0 0))
write_turn Write.CountKeyData x = record_turn x (end_by x.job.task.place x.job.counts) (flag_after x.job.counts.flag)
write_turn (Write.Update key) x = update_turn key x x.job.task.place x.job.counts

unfoldable pub act_turn : Shape → Act → Sight → Turn
act_turn g (Act.Control a) x = control_turn g a x
act_turn g (Act.Search h) x = search_turn h x
act_turn g (Act.Read counted) x = read_turn counted x
act_turn g (Act.Write w) x = write_turn w x

-- ==== the command

abbrev pub job_of : ℕ → Rule → Position → Orders → Task → Counts → Job
job_of code r s o k n = record {
  code = code;
  act = r.act;
  names = r.names;
  excepts = r.excepts;
  clears = r.clears;
  position = s;
  orders = o;
  task = k;
  counts = n;
}

-- the row that ends it before it acts: one of its plan's, then unreadable; or the job
unfoldable pub has_read : ℕ → Rule → Position → Orders → Task → Result Counts Row → Result Job Row
has_read code r s o k (Ok n) = Ok (job_of code r s o k n)
has_read code r s o k (Err row) = Err row

unfoldable pub ready_by : Tracks → ℕ → Rule → Position → Orders → Result Task Row → Result Job Row
ready_by t code r s o (Err row) = Err row
ready_by t code r s o (Ok k) = has_read code r s o k (gets r.names t k.head k.place)

-- the areas read by then
unfoldable pub plan_reads : Tracks → Rule → Result Task Row → List TrackArea
plan_reads t r (Err row) = []
plan_reads t r (Ok k) = areas_at r.names t k

unfoldable pub ready_turn : Shape → Tracks → Position → Orders → List ℕ → List TrackArea → Result Job Row → Turn
ready_turn g t s o v reads (Err row) = check_turn s o reads row
ready_turn g t s o v reads (Ok j) = act_turn g j.act (sight t j v)

-- by a row of the table
unfoldable pub rule_turn : Shape → Tracks → ℕ → Rule → Position → Orders → List ℕ → Turn
rule_turn g t code r s o v =
    ready_turn g t s o v (plan_reads t r (plan_of r (marks_of t) s o)) (ready_by t code r s o (plan_of r (marks_of t) s o))

unfoldable pub command : Shape → Tracks → Position → Orders → ℕ → List ℕ → Turn
command g t s o code v = rule_turn g t code (rule_of code) s o v

-- what it comes to before it acts
unfoldable pub ready_of : Tracks → Position → Orders → ℕ → Result Job Row
ready_of t s o code = ready_by t code (rule_of code) s o (plan_of (rule_of code) (marks_of t) s o)
