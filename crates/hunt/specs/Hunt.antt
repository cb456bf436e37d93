-- Document 01, "Where the head stands" and "Commands", Space Record; REFERENCE 4.2, 4.3, 4.6: which record is next. It goes by where the markers are and by
-- nothing else on the track.
use Rattle.std.specs.Prelude.{ℕ, suc, ◌+◌, ◌≡◌, Bool, true, false, not, List, [], ◌∷◌, length, get_or, drop, ltb, eqb, Some, None, Option}
use Rattle.cells.specs.Cells.{pick, both, track_cells, first_marker, marker}
-- Spot, a record: R0, or Marker cell. A hunt gives a marker's cell, if there is one; what is next is a spot and how many index points were passed, if there
-- is a marker at all.
use Rattle.hunt.specs.declared.{Spot.Spot}

-- a whole track
pub record WholeTrack (t : List ℕ) : Type 0 where
  pub long : length t ≡ track_cells

-- whether none of some cells holds a marker, below cell 7 too; cited by private functions alone
unfoldable pub markerless : List ℕ → Bool
markerless [] = true
markerless (x ∷ t) = both (not (eqb x marker)) (markerless t)

-- the first marker of m, whose first cell is numbered p
unfoldable pub scan : List Bool → ℕ → Option ℕ
scan [] p = None
scan (b ∷ m) p = pick b (Some p) (scan m (suc p))

-- the first marker at or after a place
unfoldable pub hunt : List Bool → ℕ → Option ℕ
hunt m p = scan (drop p m) p

-- a record is known by the first cell of its count area; that is also the place after work on it
unfoldable pub count_first : Spot → ℕ
count_first Spot.R0 = first_marker
count_first (Spot.Marker p) = p + 1

-- R0, or a cell that holds a marker
unfoldable pub spot_fits : List Bool → Spot → Bool
spot_fits m Spot.R0 = true
spot_fits m (Spot.Marker p) = get_or m p false

-- what the head comes to past the index, looking from cell 7
unfoldable pub past_index : Option ℕ → Option (Spot × ℕ)
past_index (Some p) = Some (Spot.Marker p, 1)
past_index None = None

-- what it comes to before the index, or else after
unfoldable pub ahead_or : Option ℕ → Option (Spot × ℕ) → Option (Spot × ℕ)
ahead_or (Some p) after = Some (Spot.Marker p, 0)
ahead_or None after = after

-- the next record is at the first marker at or after the place; with none, the head passes the index and looks from cell 7
unfoldable pub next_record : List Bool → ℕ → Option (Spot × ℕ)
next_record m p = ahead_or (hunt m p) (past_index (hunt m first_marker))

-- Search ID takes R0 at a place below 7, or on passing the index
unfoldable pub next_id : List Bool → ℕ → Option (Spot × ℕ)
next_id m p = pick (ltb p first_marker) (Some (Spot.R0, 0)) (ahead_or (hunt m p) (Some (Spot.R0, 1)))

-- the place after the next marker was passed without reading; with no marker at all, past the index, 7
unfoldable pub spaced_to : Option (Spot × ℕ) → ℕ
spaced_to (Some (s, n)) = count_first s
spaced_to None = first_marker

-- Space Record: after home address work 7, else past the next marker
unfoldable pub space_record : List Bool → ℕ → Bool → ℕ
space_record m p after_home = pick after_home first_marker (spaced_to (next_record m p))
