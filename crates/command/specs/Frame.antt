-- The words in which it is said what a command sees of the pack, and what it leaves as it is: demand 3 of one command (REFERENCE 1.3, 4.7). Two cylinders
-- are compared by the areas that the command reads, in order.
use Rattle.std.specs.Prelude.{◌≡◌, Bool, true, false, List, [], ◌∷◌, ◌⊎◌, Err, Ok, Result}
use Rattle.areas.specs.declared.{Part.Part}
use Rattle.areas.specs.Areas.{area_cells, readable}
use Rattle.pack.specs.declared.{Head.Head}
use Rattle.held.specs.declared.{Position.Position}
use Rattle.table.specs.declared.{Control.Control, Act.Act}
use Rattle.turn.specs.Turn.{Tracks, TrackArea, Piece}
use Rattle.command.specs.declared.{Task.Task}
use Rattle.rows.specs.declared.{Row.Row}

-- ---- two cylinders

-- an area has the same cells on both
abbrev pub Same : Tracks → Tracks → TrackArea → Type 0
Same t t' a = area_cells (t a.head) a.area ≡ area_cells (t' a.head) a.area

-- every area has
abbrev pub AllSame : Tracks → Tracks → List TrackArea → Type 0
AllSame t t' [] = Unit {0}
AllSame t t' (a ∷ l) = Same t t' a × AllSame t t' l

-- in order: areas that are readable and have the same cells on both; then one of part p that is not readable on the second
abbrev pub Breaks : Tracks → Tracks → List TrackArea → Part → Type 0
Breaks t t' [] p = ⊥
Breaks t t' (a ∷ l) p =
    ((readable (t' a.head) a.area ≡ false) × (a.area.part ≡ p))
    ⊎ (Same t t' a × (readable (t a.head) a.area ≡ true) × Breaks t t' l p)

-- ---- under which head

-- a plan that refuses works nowhere: the head stays
unfoldable pub plan_head : Position → Result Task Row → Head
plan_head s (Err row) = s.head
plan_head s (Ok k) = k.head

-- areas, and pieces, of this head's track
abbrev pub ReadsUnder : Head → List TrackArea → Type 0
ReadsUnder h [] = Unit {0}
ReadsUnder h (a ∷ l) = (a.head ≡ h) × ReadsUnder h l

abbrev pub LaysUnder : Head → List Piece → Type 0
LaysUnder h [] = Unit {0}
LaysUnder h (p ∷ l) = (p.head ≡ h) × LaysUnder h l

-- ---- which commands

-- the reads and Sense give bytes
unfoldable pub gives_bytes : Act → Bool
gives_bytes (Act.Control Control.Unknown) = false
gives_bytes (Act.Control Control.NoOp) = false
gives_bytes (Act.Control Control.Sense) = true
gives_bytes (Act.Control (Control.Seek k)) = false
gives_bytes (Act.Control Control.SetMask) = false
gives_bytes (Act.Control Control.SpaceRecord) = false
gives_bytes (Act.Search h) = false
gives_bytes (Act.Read counted) = true
gives_bytes (Act.Write w) = false
