-- Document 01, "What lies on a track" and "Commands"; REFERENCE 2.3, 5.5, 5.6: the cells of a new record; which cells an update needs.
use Rattle.std.specs.Prelude.{ℕ, ◌+◌, ◌≤◌, ◌≡◌, Bool, List, [], ◌∷◌, ◌++◌, length, eqb}
use Rattle.cells.specs.Cells.{pick, both, part, padded, all_bytes}
use Rattle.house_check.specs.Check.{check_bytes, cells_with_check}
use Rattle.areas.specs.declared.{Area.Area, Counts.Counts}
use Rattle.areas.specs.Areas.{area_cells, counts_of, data_bytes, record_cells}
use Rattle.recording.specs.Recording.{count_sent}

-- ---- a new record, of the bytes v that were sent: count, key, data; missing bytes are zeros, surplus is not fetched

-- what its count says
unfoldable pub new_counts : ℕ → List ℕ → Counts
new_counts flag v = counts_of (flag ∷ padded count_sent v)

unfoldable pub new_key : Counts → List ℕ → List ℕ
new_key n v = pick (eqb n.kl 0) [] (cells_with_check (padded n.kl (part v count_sent n.kl)))

unfoldable pub new_data : Counts → List ℕ → List ℕ
new_data n v = cells_with_check (padded (data_bytes n) (part v (count_sent + n.kl) n.dl))

unfoldable pub new_record : ℕ → List ℕ → List ℕ
new_record flag v = cells_with_check (flag ∷ padded count_sent v) ++ (new_key (new_counts flag v) v ++ new_data (new_counts flag v) v)

-- ---- an update needs byte cells, not an agreeing old check

unfoldable pub recorded : List ℕ → Area → Bool
recorded t a = both (eqb (length (area_cells t a)) (a.bytes + check_bytes)) (all_bytes (area_cells t a))

-- ---- what the functions promise one another

-- a new record from cell c on ends on the track, and these are its counts
pub record Ends (t : List ℕ) (c flag : ℕ) (v : List ℕ) (n : Counts) : Type 0 where
  pub counts : n ≡ new_counts flag v
  pub ends : c + record_cells n ≤ length t
