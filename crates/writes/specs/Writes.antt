-- What the functions of the writes promise one another. No rule of document 01's.
use Rattle.std.specs.Prelude.{ℕ, ◌<◌, ◌≡◌, Bool, List, ltb}
use Rattle.cells.specs.Cells.{pick, part}
use Rattle.areas.specs.declared.{Counts.Counts}
use Rattle.areas.specs.Areas.{key_area, data_area}
use Rattle.recording.specs.Recording.{area_written, Lies}
use Rattle.command.specs.Command.{key_sent}
use Rattle.table.specs.declared.{Names.Names, Write.Write, Act.Act}
use Rattle.command.specs.declared.{Job.Job}

-- the job does this write, and Write R0 has read the home address
pub record DoesWrite (j : Job) (w : Write) : Type 0 where
  pub act : j.act ≡ Act.Write w
  pub home : w ≡ Write.R0 → j.names ≡ Names.HomeAddress

-- a track with an area of n bytes recorded over it, if there are any, of those sent from one on
unfoldable pub gone_over : List ℕ → ℕ → List ℕ → ℕ → ℕ → List ℕ
gone_over t first v from n = pick (ltb 0 n) (area_written t first (part v from n) n) t

-- with a record's key area, if the key is sent, then its data area
unfoldable pub updated : List ℕ → Bool → ℕ → Counts → List ℕ → List ℕ
updated t key c n v = gone_over (gone_over t (key_area c n).first v 0 (key_sent key n)) (data_area c n).first v (key_sent key n) n.dl

-- the areas that an update goes over lie on the track
pub record Over (t : List ℕ) (key : Bool) (c : ℕ) (n : Counts) : Type 0 where
  pub keyed : 0 < key_sent key n → Lies t (key_area c n).first (key_sent key n)
  pub body : 0 < n.dl → Lies t (data_area c n).first n.dl
