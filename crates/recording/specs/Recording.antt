-- Document 01, "What lies on a track" and "Commands"; REFERENCE 2.2, 5.5: an area is recorded with its check; missing bytes are zeros, surplus is not
-- fetched; gaps are written as 0.
use Rattle.std.specs.Prelude.{ℕ, ◌+◌, ◌-◌, ◌≤◌, List, ◌∷◌, ◌++◌, length, take, replicate}
use Rattle.cells.specs.Cells.{overlay, padded, gap}
use Rattle.house_check.specs.Check.{check_bytes, cells_with_check}

-- an area of n bytes recorded from a cell on, of bytes that were sent
unfoldable pub area_written : List ℕ → ℕ → List ℕ → ℕ → List ℕ
area_written t first v n = overlay t first (cells_with_check (padded n v))

-- bytes of a count that are sent: CC (2), HH (2), R, KL, DL (2)
abbrev pub count_sent : ℕ
count_sent = 8

-- a count area recorded: the flag is the box's, the rest is sent
unfoldable pub count_written : List ℕ → ℕ → ℕ → List ℕ → List ℕ
count_written t c flag v = overlay t c (cells_with_check (flag ∷ padded count_sent v))

-- gaps from a cell to the end
unfoldable pub wiped : List ℕ → ℕ → List ℕ
wiped t from = take from t ++ replicate (length t - from) gap

-- an area of n bytes from a cell on lies on the track
pub record Lies (t : List ℕ) (first n : ℕ) : Type 0 where
  pub ends : first + n + check_bytes ≤ length t
