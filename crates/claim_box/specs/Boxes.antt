-- Document 01, "How tightly it is pinned"; REFERENCE 1.4: what a box must do, and the six boxes that are shut out, each as a function of the model.
use Rattle.std.specs.Prelude.{ℕ, zero, suc, ◌≤◌, ◌≡◌, Bool, true, List, [], ◌∷◌, ltb, leb, Ok, Err, Result}
use Rattle.cells.specs.Cells.{pick, both}
use Rattle.rows.specs.declared.{Row.Row}
use Rattle.words.specs.declared.{Word.Word, Status.Status, Directive.Directive, Cause.Cause}
use Rattle.words.specs.Words.{stored, status_for}
use Rattle.pack.specs.declared.{Shape.Shape}
use Rattle.held.specs.declared.{Channel.Channel}
use Rattle.held.specs.Held.{rested}
use Rattle.channel.specs.Channel.{unit_status, placed, wrong_length, goes_on, World, world}
use Rattle.table.specs.declared.{Act.Act}
use Rattle.table.specs.Table.{rule_of}
use Rattle.turn.specs.declared.{Report.Report}
use Rattle.turn.specs.Turn.{given, Turn, report_of, check_turn}
use Rattle.chain.specs.Step.{next, turn_of, settled, obeyed, step_by, step, run}
use Rattle.host.specs.declared.{Answer.Answer}
use Rattle.host.specs.Host.{Hears, hears, guard_of, guards, starts, ran, goes}

-- ---- what a host could be given, and what is said of it

-- any box: what it answers and leaves, on a start and on going on
pub record Box : Type 0 where
  pub start : Shape → World → Hears
  pub go : Shape → ℕ → World → Hears

-- what a host can lend: bytes, and cells of 16 bits
unfoldable pub all_under : ℕ → List ℕ → Bool
all_under n [] = true
all_under n (x ∷ l) = both (ltb x n) (all_under n l)

unfoldable pub lent : World → Bool
lent w = both (all_under 256 w.storage) (all_under 65536 w.cells)

-- the contracts of `host::start` and `host::go`, for an allowance of 0 to 65,535 command words
pub record Meets (b : Box) : Type 0 where
  pub start_so : (g : Shape) (w : World) → lent w ≡ true → b.start g w ≡ starts g w
  pub go_so : (g : Shape) (n : ℕ) (w : World) → n ≤ 65535 → lent w ≡ true → b.go g n w ≡ goes g n w

abbrev pub ShutOut : Box → Type 0
ShutOut b = Meets b → ⊥

-- the right one
unfoldable pub right_box : Box
right_box = record { start = starts; go = goes }

-- a box that makes the refusals as it should, and takes each command word by a step of its own
unfoldable pub run_by : (World → World) → ℕ → World → World
run_by one zero w = w
run_by one (suc n) w = pick w.held.channel.going (run_by one n (one w)) w

unfoldable pub stepped_by : (Shape → World → World) → Box
stepped_by one = record {
  start = starts;
  go = λ g n w. guards (guard_of g w) w (pick w.held.channel.going (ran (run_by (one g) n w)) (hears Answer.NoChain w));
}

-- ---- "Refusing always": one answer, and all unchanged

unfoldable pub refuses_always : Answer → Box
refuses_always a = record { start = λ g w. hears a w; go = λ g n w. hears a w }

-- ---- "one fixed reply": the refusals as they should be; else the chain ended, with one status word whatever the chain

unfoldable pub replied : Status → World → Hears
replied x w = hears Answer.ChainEnded (world (rested w.held.position) (stored w.storage x) w.cells)

unfoldable pub fixed_reply : Status → Box
fixed_reply x = record {
  start = starts;
  go = λ g n w. guards (guard_of g w) w (pick w.held.channel.going (replied x w) (hears Answer.NoChain w));
}

-- ---- "or doing nothing": it answers like the right one, and leaves all as it was lent

unfoldable pub does_nothing : Box
does_nothing = record { start = λ g w. hears (starts g w).answer w; go = λ g n w. hears (goes g n w).answer w }

-- ---- "Data Check on every read, which demand 3 alone would admit": a read ends with 08 00, and no byte moves

unfoldable pub checks_read : Shape → World → Word → Act → World
checks_read g w d (Act.Control a) = obeyed g w d
checks_read g w d (Act.Search h) = obeyed g w d
checks_read g w d (Act.Read c) = settled g w d (check_turn w.held.position w.held.orders [] Row.Unreadable)
checks_read g w d (Act.Write a) = obeyed g w d

unfoldable pub step_checking : Shape → World → Result Directive Cause → World
step_checking g w (Ok (Directive.Obey d)) = checks_read g w d (rule_of d.code).act
step_checking g w (Ok (Directive.Jump a)) = step_by g w (Ok (Directive.Jump a))
step_checking g w (Err cause) = step_by g w (Err cause)

unfoldable pub data_checks_reads : Box
data_checks_reads = stepped_by (λ g w. step_checking g w (next w))

-- ---- "Running the whole chain at once and merely counting afterwards": storage and tracks are those after `most` words; the words are
-- counted, the answer is told from the count, and what is held is what should be held after the allowance. For a chain that ends within
-- `most` words the answer and what is held are right

unfoldable pub words_counted : Shape → ℕ → World → ℕ
words_counted g zero w = 0
words_counted g (suc k) w = pick w.held.channel.going (suc (words_counted g k (step g w))) 0

unfoldable pub at_once : Shape → ℕ → ℕ → World → Hears
at_once g most n w =
    hears (pick (leb (words_counted g most w) n) Answer.ChainEnded Answer.AllowanceUsed) (world (run g n w).held (run g most w).storage (run g most w).cells)

unfoldable pub runs_at_once : ℕ → Box
runs_at_once most = record {
  start = starts;
  go = λ g n w. guards (guard_of g w) w (pick w.held.channel.going (at_once g most n w) (hears Answer.NoChain w));
}

-- ---- "An invented count left": it is told from the command word in any way, but not from the bytes that moved

unfoldable pub invented_after : (Word → ℕ) → Channel → Word → Report → List ℕ → List ℕ
invented_after left c d x s =
    pick (goes_on d x) s (stored s (status_for c.key c.next (unit_status x.ending) (pick (wrong_length d x) 0x40 0x00) (left d)))

unfoldable pub settled_inventing : (Word → ℕ) → Shape → World → Word → Turn → World
settled_inventing left g w d t =
    world (settled g w d t).held (invented_after left w.held.channel d (report_of t) (placed w.storage d (given t.moves))) (settled g w d t).cells

unfoldable pub step_inventing : (Word → ℕ) → Shape → World → Result Directive Cause → World
step_inventing left g w (Ok (Directive.Obey d)) = settled_inventing left g w d (turn_of g w d)
step_inventing left g w (Ok (Directive.Jump a)) = step_by g w (Ok (Directive.Jump a))
step_inventing left g w (Err cause) = step_by g w (Err cause)

unfoldable pub invents_count : (Word → ℕ) → Box
invents_count left = stepped_by (λ g w. step_inventing left g w (next w))

-- ---- all six, whatever the answer, the status word, the number of words (from two on) and the invention

pub record ShutOutAll : Type 0 where
  pub refusing_always : (a : Answer) → ShutOut (refuses_always a)
  pub one_fixed_reply : (x : Status) → ShutOut (fixed_reply x)
  pub doing_nothing : ShutOut does_nothing
  pub data_check_on_every_read : ShutOut data_checks_reads
  pub whole_chain_at_once : (k : ℕ) → ShutOut (runs_at_once (suc (suc k)))
  pub invented_count-left : (left : Word → ℕ) → ShutOut (invents_count left)

-- what is said is met, by the right box, and by a box that takes each word by the right step; and it admits one box
pub record OneBox : Type 0 where
  pub met : Meets right_box
  pub met_by_steps : Meets (stepped_by step)
  pub same_start : (b b' : Box) → Meets b → Meets b' → (g : Shape) (w : World) → lent w ≡ true → b.start g w ≡ b'.start g w
  pub same_go : (b b' : Box) → Meets b → Meets b'
      → (g : Shape) (n : ℕ) (w : World) → n ≤ 65535 → lent w ≡ true → b.go g n w ≡ b'.go g n w
