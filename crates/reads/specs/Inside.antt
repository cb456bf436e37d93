-- What the functions inside the crate promise one another. No rule of document 01's.
use Rattle.std.specs.Prelude.{ℕ, ◌+◌, ◌-◌, ◌<◌, ◌≤◌, ◌≡◌, Bool, List, [], ◌++◌, length, take, drop}
use Rattle.cells.specs.Cells.{pick, part, overlay, bytes_of}
use Rattle.areas.specs.declared.{Counts.Counts}
use Rattle.areas.specs.Areas.{home_bytes, key_area, data_area}
use Rattle.recording.specs.Recording.{count_sent}
use Rattle.table.specs.declared.{Names.Names}
-- Filling: at, where the next byte goes; from, how many bytes are left out before it. Parts, which are given: counted, key, body.
use Rattle.reads.specs.declared.{Filling.Filling, Parts.Parts}

-- so many bytes from a cell on lie on the track, if there are any
pub record LieIf (t : List ℕ) (first n : ℕ) : Type 0 where
  pub ends : 0 < n → first + n ≤ length t

-- ---- bytes put into lent ones

-- of the bytes v, those that are not left out and find room
abbrev pub portion : List ℕ → Filling → List ℕ → List ℕ
portion l r v = take (length l - r.at) (drop r.from v)

-- .. were put there; where the next go, and how many of them are left out
pub record Puts (old : List ℕ) (r : Filling) (v : List ℕ) (new : List ℕ) (x : Filling) : Type 0 where
  pub bytes : new ≡ overlay old r.at (portion old r v)
  pub next : x.at ≡ r.at + length (portion old r v)
  pub left : x.from ≡ r.from - length v

-- all are still to be put, from one on
abbrev pub start : ℕ → Filling
start from = record { at = 0; from = from }

-- ---- where the bytes that a read gives lie, of the record whose count area is at c

abbrev pub count_given : List ℕ → Bool → ℕ → List ℕ
count_given t counted c = bytes_of (part t (c + 1) (pick counted count_sent 0))

abbrev pub key_given : List ℕ → Bool → ℕ → Counts → List ℕ
key_given t key c n = bytes_of (part t (key_area c n).first (pick key n.kl 0))

abbrev pub body_given : List ℕ → Bool → ℕ → Counts → List ℕ
body_given t body c n = bytes_of (part t (data_area c n).first (pick body n.dl 0))

abbrev pub record_given : List ℕ → Parts → ℕ → Counts → List ℕ
record_given t p c n = count_given t p.counted c ++ (key_given t p.key c n ++ body_given t p.body c n)

abbrev pub parts : Bool → Bool → Bool → Parts
parts counted key body = record { counted = counted; key = key; body = body }

-- by what is named
unfoldable pub bytes_given : List ℕ → Bool → Names → ℕ → Counts → List ℕ
bytes_given t counted Names.Nothing c n = []
bytes_given t counted Names.HomeAddress c n = bytes_of (part t 0 home_bytes)
bytes_given t counted (Names.Count key body) c n = record_given t (parts counted key body) c n

-- how many they are
unfoldable pub many_given : Bool → Names → Counts → ℕ
many_given counted Names.Nothing n = 0
many_given counted Names.HomeAddress n = home_bytes
many_given counted (Names.Count key body) n = pick counted count_sent 0 + pick key n.kl 0 + pick body n.dl 0

-- they lie on the track
pub record LieAll (t : List ℕ) (p : Parts) (c : ℕ) (n : Counts) : Type 0 where
  pub count : LieIf t (c + 1) (pick p.counted count_sent 0)
  pub key : LieIf t (key_area c n).first (pick p.key n.kl 0)
  pub body : LieIf t (data_area c n).first (pick p.body n.dl 0)
