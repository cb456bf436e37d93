-- Document 01, "What the box stands in for"; REFERENCE 2.1: a pack may be lent with 1 to 203 cylinders and 1 to 10 heads; its tracks lie in one list of
-- cells, cylinder by cylinder, in each head by head (DECISIONS 15). "Commands"; REFERENCE 5.2: a seek's address.
use Rattle.std.specs.Prelude.{ℕ, ◌*◌, ◌+◌, ◌<◌, ◌≤◌, Bool, ltb, leb, eqb, ◌≡◌, List, length, Ok, Err, Result}
use Rattle.cells.specs.Cells.{pick, both, track_cells, part, overlay}
use Rattle.rows.specs.declared.{Row.Row}
-- Cylinder, Head: a number each, .0. Shape, what the host says of the pack: cylinders, heads.
use Rattle.pack.specs.declared.{Cylinder.Cylinder, Head.Head, Shape.Shape}

abbrev pub most_cylinders : ℕ
most_cylinders = 203

abbrev pub most_heads : ℕ
most_heads = 10

abbrev pub from1_to : ℕ → ℕ → Bool
from1_to most n = both (leb 1 n) (leb n most)

-- a right shape, with the cells that its tracks have
unfoldable pub pack_fits : Shape → ℕ → Bool
pack_fits g n =
    both (from1_to most_cylinders g.cylinders)
    (both (from1_to most_heads g.heads) (eqb n (g.cylinders * g.heads * track_cells)))

abbrev pub cylinder : ℕ → Cylinder
cylinder n = record { 0 = n }

abbrev pub head : ℕ → Head
head n = record { 0 = n }

abbrev pub cylinder_on : Shape → Cylinder → Bool
cylinder_on g c = ltb c.0 g.cylinders

abbrev pub head_on : Shape → Head → Bool
head_on g h = ltb h.0 g.heads

-- ---- a seek's address, BB CC HH: where the head then stands, or the Unit Check row

-- Seek and Seek Cylinder: BB = 0, CC and HH on the pack
unfoldable pub seek_to : Shape → ℕ → Cylinder → Head → Result (Cylinder × Head) Row
seek_to g bb c h = pick (both (eqb bb 0) (both (cylinder_on g c) (head_on g h))) (Ok (c, h)) (Err Row.BadSeek)

-- Seek Head tests and uses HH only
unfoldable pub seek_head : Shape → Cylinder → Head → Result (Cylinder × Head) Row
seek_head g c h = pick (head_on g h) (Ok (c, h)) (Err Row.BadSeek)

-- a pack of a right size with the cells that its tracks have
pub record WholePack (g : Shape) (cells : List ℕ) : Type 0 where
  pub cylinders : g.cylinders ≤ most_cylinders
  pub heads : g.heads ≤ most_heads
  pub count : length cells ≡ g.cylinders * g.heads * track_cells

-- a cylinder and a head of the pack
pub record OnPack (g : Shape) (c : Cylinder) (h : Head) : Type 0 where
  pub cylinder : c.0 < g.cylinders
  pub head : h.0 < g.heads

-- the number of a track, and its first cell
abbrev pub track_no : Shape → Cylinder → Head → ℕ
track_no g c h = c.0 * g.heads + h.0

unfoldable pub start_of : Shape → Cylinder → Head → ℕ
start_of g c h = track_no g c h * track_cells

-- the cells of the track that starts at a cell
unfoldable pub track_at : List ℕ → ℕ → List ℕ
track_at cells start = part cells start track_cells

-- the pack with that track put in the place of the one that was there
unfoldable pub with_track : List ℕ → ℕ → List ℕ → List ℕ
with_track cells start t = overlay cells start t
