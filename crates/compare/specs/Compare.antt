-- Document 01, "Commands"; REFERENCE 5.3: a search compares the first m bytes as unsigned numbers; high means the track's is higher.
use Rattle.std.specs.Prelude.{ℕ, List, length, take, ltb, eqb}
use Rattle.std.specs.declared.cmp.Ordering.{Ordering}
use Rattle.cells.specs.Cells.{pick, number, bytes_of}

-- how the track's number stands to the one sent: Less is low, Greater is high
unfoldable pub compared : ℕ → ℕ → Ordering
compared on_track sent = pick (eqb on_track sent) Ordering.Equal (pick (ltb sent on_track) Ordering.Greater Ordering.Less)

-- the bytes of the cells f and the bytes sent, as many as both have
unfoldable pub compared_bytes : List ℕ → List ℕ → Ordering
compared_bytes f v = compared (number (bytes_of (take (length v) f))) (number (take (length f) v))
