-- What the functions inside the crate promise one another. No rule of document 01's.
use Rattle.std.specs.Prelude.{ℕ, ◌+◌, ◌<◌, ◌≤◌, ◌≡◌, List, length}
use Rattle.cells.specs.Cells.{marks}
use Rattle.words.specs.declared.{Word.Word}
use Rattle.words.specs.Words.{word_bytes, AreaFits, status_at}
use Rattle.hunt.specs.Hunt.{WholeTrack}
use Rattle.pack.specs.declared.{Shape.Shape}
use Rattle.held.specs.declared.{Held.Held}
use Rattle.command.specs.Command.{SelectedOn}
use Rattle.turn.specs.declared.{Report.Report}
use Rattle.turn.specs.Turn.{given, filled, Turn, report_of, lay}
use Rattle.channel.specs.Channel.{placed}

-- a turn was told, the lent area has the bytes that it gives, and its cells were laid
pub record Acted (x : Turn) (v t v' t' : List ℕ) (d : Report) : Type 0 where
  pub told : d ≡ report_of x
  pub area : v' ≡ filled v 0 (given x.moves)
  pub track : t' ≡ lay x.lays t

-- the same of storage, with the area at a word's address
pub record Turned (x : Turn) (w : Word) (s t s' t' : List ℕ) (d : Report) : Type 0 where
  pub told : d ≡ report_of x
  pub storage : s' ≡ placed s w (given x.moves)
  pub track : t' ≡ lay x.lays t

-- what the channel needs of storage, the word and the track to obey it
pub record CanObey (h : Held) (w : Word) (s t : List ℕ) : Type 0 where
  pub room : status_at + word_bytes ≤ length s
  pub key : h.channel.key < 16
  pub reaches : AreaFits s w
  pub whole : WholeTrack t
  pub selected : SelectedOn (marks t) h.orders.selection
