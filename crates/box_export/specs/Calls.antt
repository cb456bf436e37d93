-- REFERENCE 10.1, 10.2: the calls that a host links, over lent bytes: what each answers, and what it leaves of the held bytes, storage and cells.
use Rattle.std.specs.Prelude.{ℕ, List, length, Some, None, Option}
use Rattle.pack.specs.declared.{Shape.Shape}
use Rattle.held.specs.Held.{encoded, kept}
use Rattle.channel.specs.Channel.{world}
use Rattle.host.specs.Host.{Hears, answer_no, wrong_held, starts, goes}
use Rattle.held.specs.declared.{Held.Held}

pub record Call : Type 0 where
  pub answer : ℕ
  pub held : List ℕ
  pub storage : List ℕ
  pub cells : List ℕ

abbrev pub call : ℕ → List ℕ → List ℕ → List ℕ → Call
call a v s c = record { answer = a; held = v; storage = s; cells = c }

abbrev pub shape : ℕ → ℕ → Shape
shape c h = record { cylinders = c; heads = h }

-- what the host hears, in bytes
unfoldable pub call_of : Hears → Call
call_of x = call (answer_no x.answer) (encoded x.left.held) x.left.storage x.left.cells

-- bytes that encode no held state are refused in refusal 4's place; all is left unchanged
unfoldable pub start_kept : Shape → List ℕ → List ℕ → List ℕ → Option Held → Call
start_kept g v s c (Some h) = call_of (starts g (world h s c))
start_kept g v s c None = call (answer_no (wrong_held g (length s) (length c))) v s c

unfoldable pub start_call : Shape → List ℕ → List ℕ → List ℕ → Call
start_call g v s c = start_kept g v s c (kept v)

unfoldable pub go_kept : Shape → ℕ → List ℕ → List ℕ → List ℕ → Option Held → Call
go_kept g n v s c (Some h) = call_of (goes g n (world h s c))
go_kept g n v s c None = call (answer_no (wrong_held g (length s) (length c))) v s c

unfoldable pub go_call : Shape → ℕ → List ℕ → List ℕ → List ℕ → Call
go_call g n v s c = go_kept g n v s c (kept v)
