-- What one command does, as one value. A command is told its code and the bytes sent; it knows no storage, no address, no command word and no channel.
-- Document 01, "Commands", and the Unit Check table of "Channel words"; REFERENCE 5, 8.3.
use Rattle.std.specs.Prelude.{ℕ, Bool, true, false, List, [], ◌∷◌, length, take, drop, Option}
use Rattle.cells.specs.Cells.{overlay}
use Rattle.rows.specs.declared.{Row.Row, Sense.Sense}
use Rattle.rows.specs.Rows.{sense_of, row_takes}
use Rattle.areas.specs.declared.{Area.Area}
use Rattle.pack.specs.declared.{Cylinder.Cylinder, Head.Head}
use Rattle.held.specs.declared.{Position.Position, Orders.Orders}
use Rattle.held.specs.Held.{no_sense}
-- Ending: Normal, Satisfied (a search), Exception (Unit Exception), Check row (Unit Check). Transfer: None, Gives or Takes so many. Report, a
-- turn without bytes and cells: ending, transfer, position, orders.
use Rattle.turn.specs.declared.{Ending.Ending, Transfer.Transfer, Report.Report}
use Rattle.hunt.specs.declared.{Spot.Spot}

-- all that a command sees of the pack: the tracks of the cylinder, by their heads
abbrev pub Tracks : Type 0
Tracks = Head → List ℕ

-- the same track under every head: what a function that is lent one track knows of a cylinder
abbrev pub alone : List ℕ → Tracks
alone t h = t

-- an area of a head's track
pub record TrackArea : Type 0 where
  pub head : Head
  pub area : Area

-- cells for a head's track, from a cell on
pub record Piece : Type 0 where
  pub head : Head
  pub first : ℕ
  pub cells : List ℕ

-- ---- the bytes that move: none, and length does not count; those that it gives; so many of those sent

pub data Moves : Type 0 where
  None : Moves
  Gives : List ℕ → Moves
  Takes : ℕ → Moves

-- the bytes given
unfoldable pub given : Moves → List ℕ
given None = []
given (Gives v) = v
given (Takes n) = []

-- the numbers alone
unfoldable pub transfer_of : Moves → Transfer
transfer_of None = Transfer.None
transfer_of (Gives v) = Transfer.Gives (length v)
transfer_of (Takes n) = Transfer.Takes n

-- how many bytes the device wants, in either direction
unfoldable pub wants : Transfer → ℕ
wants Transfer.None = 0
wants (Transfer.Gives n) = n
wants (Transfer.Takes n) = n

-- lent bytes after those from one on were put there, as many as find room
unfoldable pub filled : List ℕ → ℕ → List ℕ → List ℕ
filled l from v = overlay l 0 (take (length l) (drop from v))

-- ---- the turn: how it ends, which bytes move, which areas it reads, in order, which cells it lays, in order, what is held then

pub record Turn : Type 0 where
  pub ending : Ending
  pub moves : Moves
  pub reads : List TrackArea
  pub lays : List Piece
  pub position : Position
  pub orders : Orders

abbrev pub turn : Ending → Moves → List TrackArea → List Piece → Position → Orders → Turn
turn e m r l s o = record { ending = e; moves = m; reads = r; lays = l; position = s; orders = o }

-- what is reported of it
unfoldable pub report_of : Turn → Report
report_of t = record { ending = t.ending; transfer = transfer_of t.moves; position = t.position; orders = t.orders }

-- a track with pieces laid on it, one after another
unfoldable pub lay : List Piece → List ℕ → List ℕ
lay [] t = t
lay (p ∷ l) t = lay l (overlay t p.first p.cells)

-- ---- what is held: where the head stands, and what the next command finds

unfoldable pub position_at : Cylinder → Head → ℕ → Sense → Position
position_at c h p x = record { cylinder = c; head = h; place = p; sense = x }

-- the same place, with this in sense
unfoldable pub with_sense : Position → Sense → Position
with_sense s x = position_at s.cylinder s.head s.place x

-- a seek sets place 0, and clears sense
unfoldable pub position_sought : Cylinder → Head → Position
position_sought c h = position_at c h 0 no_sense

unfoldable pub orders_of : ℕ → Bool → ℕ → Bool → ℕ → Option Spot → Orders
orders_of mask set before whole tally selection = record {
  mask = mask;
  mask_set = set;
  before = before;
  whole = whole;
  tally = tally;
  selection = selection;
}

-- after the command with this code: the mask stands
unfoldable pub after : Orders → ℕ → Bool → ℕ → Option Spot → Orders
after o code whole tally selection = orders_of o.mask o.mask_set code whole tally selection

-- ---- Unit Check: no cell is laid, the place stands, and sense says the row

unfoldable pub is_check : Ending → Bool
is_check Ending.Normal = false
is_check Ending.Satisfied = false
is_check Ending.Exception = false
is_check (Ending.Check row) = true

unfoldable pub check_turn : Position → Orders → List TrackArea → Row → Turn
check_turn s o r row = turn (Ending.Check row) (Takes (row_takes row)) r [] (with_sense s (sense_of row)) o
