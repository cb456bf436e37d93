-- What a host links (REFERENCE 10.2): start and go over the 64 bytes that it keeps, lent storage and lent cells (`box_export:Calls`, the contracts of
-- `poplar_start` and `poplar_go`). What is claimed of `starts` and `goes` is said here of these calls: an allowance may be cut in parts (demand 1), what may
-- change (demand 2), damage (demand 3), and that soundness lasts. Bytes that encode no held state are among what a host may lend: then nothing runs.
use Rattle.std.specs.Prelude.{ℕ, ◌+◌, ◌*◌, ◌<◌, ◌≡◌, Bool, true, false, List, [], ◌∷◌, length, get_or, Ok, Some, None, Option}
use Rattle.cells.specs.Cells.{both, track_cells, gap}
use Rattle.words.specs.declared.{Word.Word, Directive.Directive}
use Rattle.words.specs.Words.{stored, status_for}
use Rattle.areas.specs.declared.{Area.Area}
use Rattle.pack.specs.declared.{Shape.Shape}
use Rattle.held.specs.declared.{Held.Held}
use Rattle.held.specs.Held.{encoded, kept, rested}
use Rattle.turn.specs.Turn.{with_sense}
use Rattle.channel.specs.Channel.{World, world}
use Rattle.chain.specs.Step.{next, run}
use Rattle.host.specs.declared.{Answer.Answer}
use Rattle.host.specs.Host.{guard_of, if_passes, answer_no, wrong_held}
use Rattle.box_export.specs.Calls.{Call, call, start_call, go_call}
use Rattle.claim_box.specs.Boxes.{all_under}
use Rattle.claim_box.specs.Confined.{among, spares_cell, spares_byte, spares_track}
use Rattle.claim_box.specs.Demand3.{track, Harmed, HostCall, start, go, spared, FirstReads, data_check}
use Rattle.claim_sound.specs.Soundness.{bytes, spares_done, known_call, Known, AllSound, home_kept}

-- ---- the calls

-- one, on what the call before left
unfoldable pub link : Shape → HostCall → Call → Call
link g start x = start_call g x.held x.storage x.cells
link g (go n) x = go_call g n x.held x.storage x.cells

-- what each of several answers and leaves; what is left in the end
unfoldable pub links : Shape → List HostCall → Call → List Call
links g [] x = []
links g (k ∷ ks) x = link g k x ∷ links g ks (link g k x)

unfoldable pub linked_to : Shape → List HostCall → Call → Call
linked_to g [] x = x
linked_to g (k ∷ ks) x = linked_to g ks (link g k x)

-- by the held state that the bytes encode; if they encode none, nothing runs, and it is b
unfoldable pub if_held : Option Held → (Held → Bool) → Bool → Bool
if_held (Some h) f b = f h
if_held None f b = b

-- with what the bytes say, what is lent is a world
abbrev pub world_by : Call → Held → World
world_by x h = world h x.storage x.cells

-- what holds of the words of a go: nothing runs if it is refused
unfoldable pub if_runs : Shape → Call → (World → Bool) → Bool
if_runs g x f = if_held (kept x.held) (λ (h : Held). if_passes (guard_of g (world_by x h)) (f (world_by x h))) true

-- .. and of all words that run in these calls
unfoldable pub if_run : Shape → (ℕ → World → Bool) → HostCall → Call → Bool
if_run g f start x = true
if_run g f (go n) x = if_runs g x (f n)

unfoldable pub if_all_run : Shape → (ℕ → World → Bool) → List HostCall → Call → Bool
if_all_run g f [] x = true
if_all_run g f (k ∷ ks) x = both (if_run g f k x) (if_all_run g f ks (link g k x))

-- ---- demand 1: "Cutting it into parts, with lent memory untouched between, changes nothing."

-- answer 1, allowance used
abbrev pub used : ℕ
used = answer_no Answer.AllowanceUsed

pub record LinkCut (g : Shape) (a b : ℕ) (x : Call) : Type 0 where
  pub cut_used : (link g (go a) x).answer ≡ used → link g (go b) (link g (go a) x) ≡ link g (go (a + b)) x
  pub cut_else : ((link g (go a) x).answer ≡ used → ⊥) → link g (go (a + b)) x ≡ link g (go a) x

-- ---- demand 2: what may change, as `claim_box:Confined.CallConfined` has it; nothing grows

pub record LinkConfined (g : Shape) (n : ℕ) (x : Call) : Type 0 where
  pub cells : (i : ℕ) → if_runs g x (spares_cell g i n) ≡ true → get_or (link g (go n) x).cells i gap ≡ get_or x.cells i gap
  pub on_track_lem : (m i : ℕ) → i < track_cells → if_runs g x (spares_track g m n) ≡ true
      → get_or (link g (go n) x).cells (m * track_cells + i) gap ≡ get_or x.cells (m * track_cells + i) gap
  -- a track on which no write was done (any that ran there ended in Unit Check) is as it was
  pub undone : (m : ℕ) → if_runs g x (spares_done g m n) ≡ true → track (link g (go n) x).cells m ≡ track x.cells m
  pub storage : (i : ℕ) → if_runs g x (spares_byte g i n) ≡ true → get_or (link g (go n) x).storage i 0 ≡ get_or x.storage i 0
  pub start_cells : (link g start x).cells ≡ x.cells
  pub start_else : ((link g start x).answer ≡ answer_no Answer.BadStart → ⊥) → (link g start x).storage ≡ x.storage
  pub start_storage : (i : ℕ) → among 68 2 i ≡ false → get_or (link g start x).storage i 0 ≡ get_or x.storage i 0
  -- lengths, of every call
  pub long : (k : HostCall) → length (link g k x).cells ≡ length x.cells
  pub storage_long : (k : HostCall) → length (link g k x).storage ≡ length x.storage
  pub held_long : (k : HostCall) → length (link g k x).held ≡ length x.held
  -- bytes that encode no held state: a refusal, 4 unless 2 or 3 comes first, and all is left unchanged
  pub wrong : (k : HostCall) → kept x.held ≡ None
      → link g k x ≡ call (answer_no (wrong_held g (length x.storage) (length x.cells))) x.held x.storage x.cells

-- ---- demand 3

-- every answer, held byte and stored byte agrees, and no cell of either pack changes
pub record LinkAgrees (c c' : List ℕ) (x y : Call) : Type 0 where
  pub answer : y.answer ≡ x.answer
  pub held : y.held ≡ x.held
  pub storage : y.storage ≡ x.storage
  pub mine : x.cells ≡ c
  pub theirs : y.cells ≡ c'

pub data AllLinksAgree (c c' : List ℕ) : List Call → List Call → Type 0 where
  none : AllLinksAgree c c' [] []
  more : {x y : Call} {l m : List Call} → LinkAgrees c c' x y → AllLinksAgree c c' l m → AllLinksAgree c c' (x ∷ l) (y ∷ m)

-- no word that ran in these calls was a write, and none read the area x of track n
unfoldable pub spared_links : Shape → ℕ → Area → List HostCall → Call → Bool
spared_links g n x ks y = if_all_run g (spared g n x) ks y

-- the first word that reads it is word k + 1 of a go from y, whose bytes say this held state
pub record LinkFirst (g : Shape) (n : ℕ) (x : Area) (allowance k : ℕ) (y : Call) : Type 0 where
  pub said : Held
  pub says : kept y.held ≡ Some said
  pub first : FirstReads g n x allowance k (world_by y said)

-- then that go, from the same bytes and storage on the damaged pack, answers 0, chain ended, at that word: where u is the world of the undamaged pack
-- before it, storage is that of u with a new status word, Unit Check and the word's whole count left; the bytes say Data Check; no cell changed
pub record LinkEnds (x : Area) (u : World) (y z : Call) : Type 0 where
  pub word : Word
  pub given : next u ≡ Ok (Directive.Obey word)
  pub answer : z.answer ≡ answer_no Answer.ChainEnded
  pub held : z.held ≡ encoded (rested (with_sense u.held.position (data_check x.part)))
  pub storage : z.storage ≡ stored u.storage (status_for u.held.channel.key u.held.channel.next 0x0E 0x00 word.count)
  pub cells : z.cells ≡ y.cells

-- what a host lends of the damaged pack, all else alike
abbrev pub with_cells : Call → List ℕ → Call
with_cells y c = record { answer = y.answer; held = y.held; storage = y.storage; cells = c }

pub record LinkDemand3 (g : Shape) (n : ℕ) (x : Area) (c c' : List ℕ) : Type 0 where
  pub agrees : (y : Call) → y.cells ≡ c → (ks : List HostCall) → spared_links g n x ks y ≡ true
      → AllLinksAgree c c' (links g ks y) (links g ks (with_cells y c'))
  pub ends : (y : Call) → y.cells ≡ c → (ks : List HostCall) → spared_links g n x ks y ≡ true
      → (allowance k : ℕ) → (f : LinkFirst g n x allowance k (linked_to g ks y))
      → LinkEnds x (run g k (world_by (linked_to g ks y) f.said)) (linked_to g ks (with_cells y c'))
      (link g (go allowance) (linked_to g ks (with_cells y c')))

-- ---- soundness, from chain to chain

-- what a host does, one after another: it calls, or it brings other held bytes and other storage, as for another chain; the cells stay
pub data Deed : Type 0 where
  calls : HostCall → Deed
  brings : List ℕ → List ℕ → Deed

unfoldable pub deed : Shape → Deed → Call → Call
deed g (calls k) x = link g k x
deed g (brings v s) x = record { answer = x.answer; held = v; storage = s; cells = x.cells }

unfoldable pub deeds : Shape → List Deed → Call → Call
deeds g [] x = x
deeds g (d ∷ ds) x = deeds g ds (deed g d x)

-- what it lends, and what it brings, are bytes
pub record LentBytes (x : Call) : Type 0 where
  pub held : all_under bytes x.held ≡ true
  pub storage : all_under bytes x.storage ≡ true

unfoldable pub brought_bytes : List Deed → Bool
brought_bytes [] = true
brought_bytes (calls k ∷ ds) = brought_bytes ds
brought_bytes (brings v s ∷ ds) = both (both (all_under bytes v) (all_under bytes s)) (brought_bytes ds)

-- whether track m is known to be soundly written after it
unfoldable pub known_deed : Shape → ℕ → Deed → Call → Bool → Bool
known_deed g m (calls k) x b = if_held (kept x.held) (λ (h : Held). known_call g m k (world_by x h) b) b
known_deed g m (brings v s) x b = b

unfoldable pub known_deeds : Shape → ℕ → List Deed → Call → Bool → Bool
known_deeds g m [] x b = b
known_deeds g m (d ∷ ds) x b = known_deeds g m ds (deed g d x) (known_deed g m d x b)

-- no Write HA was done
unfoldable pub home_spared : Shape → Deed → Call → Bool
home_spared g (calls k) x = if_held (kept x.held) (λ (h : Held). home_kept g k (world_by x h)) true
home_spared g (brings v s) x = true

unfoldable pub homes_spared : Shape → List Deed → Call → Bool
homes_spared g [] x = true
homes_spared g (d ∷ ds) x = both (home_spared g d x) (homes_spared g ds (deed g d x))

pub record LinkSound (g : Shape) (ds : List Deed) (x : Call) : Type 0 where
  pub lent_storage : LentBytes x → brought_bytes ds ≡ true → all_under bytes (deeds g ds x).storage ≡ true
  pub track_sound : LentBytes x → brought_bytes ds ≡ true → (m : ℕ) (b : Bool) → Known m x.cells b
      → Known m (deeds g ds x).cells (known_deeds g m ds x b)
  pub pack_sound : LentBytes x → brought_bytes ds ≡ true → homes_spared g ds x ≡ true → AllSound g x.cells → AllSound g (deeds g ds x).cells

-- ---- all of it

pub record Linked (g : Shape) : Type 0 where
  pub cut : (a b : ℕ) (x : Call) → LinkCut g a b x
  pub confined : (n : ℕ) (x : Call) → LinkConfined g n x
  pub demand_3 : (n s : ℕ) (x : Area) (c c' : List ℕ) → Harmed n s x c c' → LinkDemand3 g n x c c'
  pub sound : (ds : List Deed) (x : Call) → LinkSound g ds x
