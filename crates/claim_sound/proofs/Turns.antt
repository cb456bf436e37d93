-- What a command gives are bytes, and what it leaves in sense are bytes. Why: a read gives the low bytes of cells, counts put together from such and taken
-- apart again, and Sense gives what sense holds; sense is what it was, or nothing, or a row's.
use Prim.Native.Nat.{ℕ, ◌<◌}
use mathlib.Core.Path.{◌≡◌, refl}
use mathlib.Core.Bool.{Bool, true}
use mathlib.Core.List.{List, [], ◌∷◌}
use native.Mathlib.Omega.{arith}
use lib.ListN.{get_or}
use lib.Dec.{lit<}
use borrow.Author.Tests.{lt-ltb}
use Rattle.cells.specs.Cells.{pick}
use Rattle.cells.proofs.Numbers.{Bytes}
use Rattle.cells.proofs.Tests.{both_of, pick_all}
use Rattle.rows.specs.declared.{Row.Row, Sense.Sense}
use Rattle.rows.specs.Rows.{sense_of}
use Rattle.areas.specs.declared.{Part.Part, Counts.Counts}
use Rattle.areas.specs.Areas.{readable, row_of, count_area, counts_of, counts_at}
use Rattle.room.specs.Room.{fits}
use Rattle.pack.specs.declared.{Head.Head, Shape.Shape, Cylinder.Cylinder}
use Rattle.held.specs.declared.{Position.Position, Orders.Orders}
use Rattle.table.specs.declared.{Names.Names, Control.Control, Write.Write, Act.Act}
use Rattle.table.specs.Table.{rule_of, is_mask}
use Rattle.turn.specs.declared.{Ending.Ending}
use Rattle.turn.specs.Turn.{Tracks, TrackArea, Piece, Moves, given, Turn, position_at, with_sense, position_sought, check_turn}
use Rattle.command.specs.declared.{Task.Task}
use Rattle.command.specs.Command.{marks_of, plan_of, areas_of, all_read, counts_in, gets, Seen, seen, seen_with, seen_of, Sight, sight, fail_turn, sense_after, position_after, end_turn_at, end_turn, no_op_turn, sense_bytes, sense_turn, addressed, arrival_turn, seek_turn, masked_turn, mask_turn, space_turn, id_of, field_turn, search_turn, count_moved, offered, read_turn, home_turn, new_turn, r0_turn, record_turn, update_turn, control_turn, write_turn, act_turn, job_of, has_read, ready_by, ready_turn, rule_turn, command}
use Rattle.claim_box.specs.Boxes.{all_under}
use Rattle.claim_sound.proofs.Bytes.{under-append, high_byte, low_byte, under-bytes, area-under}
use Rattle.std.specs.Prelude.{Ok, Err, Result}

-- ---- sense, and what is given

abbrev pub SenseBytes : Sense → Type 0
SenseBytes x = (x.byte0 < 256) × (x.byte1 < 256)

pub record TurnBytes (x : Turn) : Type 0 where
  pub sense : SenseBytes x.position.sense
  pub gives : all_under 256 (given x.moves) ≡ true

row-bytes : (row : Row) → SenseBytes (sense_of row)
unfolding sense_of
row-bytes Row.UnknownCode = (lit< tt, lit< tt)
row-bytes Row.BadMask = (lit< tt, lit< tt)
row-bytes Row.SecondMask = (lit< tt, lit< tt)
row-bytes Row.WrongBefore = (lit< tt, lit< tt)
row-bytes Row.SeekBarred = (lit< tt, lit< tt)
row-bytes Row.WriteBarred = (lit< tt, lit< tt)
row-bytes Row.BadSeek = (lit< tt, lit< tt)
row-bytes Row.Unreadable = (lit< tt, lit< tt)
row-bytes Row.UnreadableCount = (lit< tt, lit< tt)
row-bytes Row.NoRoom = (lit< tt, lit< tt)
row-bytes Row.NoMarker = (lit< tt, lit< tt)
row-bytes Row.SecondIndex = (lit< tt, lit< tt)

check-bytes : (s : Position) (o : Orders) (l : List TrackArea) (row : Row) → TurnBytes (check_turn s o l row)
unfolding check_turn with_sense position_at given all_under
check-bytes s o l row = record { sense = row-bytes row; gives = refl }

-- ---- counts

record CountBytes (n : Counts) : Type 0 where
  cc : n.cc < 65536
  hh : n.hh < 65536
  r : n.r < 256
  kl : n.kl < 256
  dl : n.dl < 65536

counted : (v : List ℕ) → Bytes v → CountBytes (counts_of v)
unfolding counts_of
counted v b = record {
  cc = omega (arith, b 1, b 2);
  hh = omega (arith, b 3, b 4);
  r = b 5;
  kl = b 6;
  dl = omega (arith, b 7, b 8);
}

names_bytes : (n : Names) (t : Tracks) (h : Head) (c : ℕ) → CountBytes (counts_in n t h c)
unfolding counts_in counts_at
names_bytes Names.Nothing t h c = record { cc = lit< tt; hh = lit< tt; r = lit< tt; kl = lit< tt; dl = lit< tt }
names_bytes Names.HomeAddress t h c = record { cc = lit< tt; hh = lit< tt; r = lit< tt; kl = lit< tt; dl = lit< tt }
names_bytes (Names.Count key body) t h c = counted _ (under-bytes _ (area-under (t h) (count_area c)))

abbrev GotBytes : Result Counts Row → Type 0
GotBytes (Ok n) = CountBytes n
GotBytes (Err row) = Unit {0}

read_bytes : (t : Tracks) (l : List TrackArea) (x : Result Counts Row) → GotBytes x → GotBytes (all_read t l x)
unfolding all_read
read_bytes t [] x b = b
read_bytes t (a ∷ l) x b =
    pick_all GotBytes (readable (t a.head) a.area) {x = all_read t l x} {y = Err (row_of a.area.part)} (read_bytes t l x b) tt

gets-bytes : (n : Names) (t : Tracks) (h : Head) (c : ℕ) → GotBytes (gets n t h c)
unfolding gets
gets-bytes n t h c = read_bytes t (areas_of n t h c) _ (names_bytes n t h c)

moved_bytes : (n : Counts) → CountBytes n → all_under 256 (count_moved n) ≡ true
unfolding count_moved id_of all_under
moved_bytes n b =
    both_of (high_byte n.cc b.cc) (both_of (low_byte n.cc) (both_of (high_byte n.hh b.hh) (both_of (low_byte n.hh)
    (both_of (lt-ltb _ 256 b.r) (both_of (lt-ltb _ 256 b.kl) (both_of (high_byte n.dl b.dl) (both_of (low_byte n.dl) refl)))))))

-- ---- the bytes of areas

record SeenBytes (x : Seen) : Type 0 where
  home : all_under 256 x.home ≡ true
  key : all_under 256 x.key ≡ true
  body : all_under 256 x.body ≡ true

with_bytes : (p : Part) (v : List ℕ) (x : Seen) → all_under 256 v ≡ true → SeenBytes x → SeenBytes (seen_with p v x)
unfolding seen_with
with_bytes Part.Home v x e b = record { home = e; key = b.key; body = b.body }
with_bytes Part.Count v x e b = b
with_bytes Part.Key v x e b = record { home = b.home; key = e; body = b.body }
with_bytes Part.Data v x e b = record { home = b.home; key = b.key; body = e }

seen_bytes : (t : Tracks) (l : List TrackArea) → SeenBytes (seen_of t l)
unfolding seen_of all_under
seen_bytes t [] = record { home = refl; key = refl; body = refl }
seen_bytes t (a ∷ l) = with_bytes a.area.part _ _ (area-under (t a.head) a.area) (seen_bytes t l)

offered-bytes : (names : Names) (c : Bool) (n : Counts) (x : Seen) → CountBytes n → SeenBytes x → all_under 256 (offered names c n x) ≡ true
unfolding offered all_under
offered-bytes Names.Nothing c n x b e = refl
offered-bytes Names.HomeAddress c n x b e = e.home
offered-bytes (Names.Count key body) c n x b e =
    let Under : List ℕ → Type 0 = λ (v : List ℕ). all_under 256 v ≡ true in
    under-append 256 (pick c (count_moved n) []) _ (pick_all Under c (moved_bytes n b) refl)
    (under-append 256 (pick key x.key []) _ (pick_all Under key e.key refl) (pick_all Under body e.body refl))

-- ---- what a command does

module _ (x : Sight) (s : SenseBytes x.job.position.sense) (e : SeenBytes x.seen) (b : CountBytes x.job.counts) where
  after-bytes : SenseBytes (sense_after x.job)
  unfolding sense_after
  after-bytes = pick_all SenseBytes x.job.clears (lit< tt, lit< tt) s

  fail_bytes : (row : Row) → TurnBytes (fail_turn x row)
  unfolding fail_turn
  fail_bytes row = check-bytes _ _ _ row

  end_bytes : (k : Task) (f : Ending) (m : Moves) (l : List Piece) (whole : Bool) → all_under 256 (given m) ≡ true → TurnBytes (end_turn_at x k f m l whole)
  unfolding end_turn_at position_after position_at
  end_bytes k f m l whole g = record { sense = after-bytes; gives = g }

  arrival_bytes : (y : Result (Cylinder × Head) Row) → TurnBytes (arrival_turn x y)
  unfolding arrival_turn position_sought position_at given all_under
  arrival_bytes (Ok (c, h)) = record { sense = (lit< tt, lit< tt); gives = refl }
  arrival_bytes (Err row) = fail_bytes row

  mask_bytes_lem : (byte : ℕ) → TurnBytes (mask_turn x byte)
  unfolding mask_turn masked_turn position_after position_at given all_under
  mask_bytes_lem byte =
      pick_all TurnBytes (is_mask byte)
      (pick_all TurnBytes x.job.orders.mask_set (fail_bytes Row.SecondMask) (record { sense = after-bytes; gives = refl })) (fail_bytes Row.BadMask)

  sense-bytes : all_under 256 (sense_bytes x.job.position) ≡ true
  unfolding sense_bytes all_under
  sense-bytes = both_of (lt-ltb _ 256 s.0) (both_of (lt-ltb _ 256 s.1) refl)

  control_bytes : (g : Shape) (a : Control) → TurnBytes (control_turn g a x)
  unfolding control_turn no_op_turn sense_turn seek_turn space_turn end_turn given all_under
  control_bytes g Control.Unknown = fail_bytes Row.UnknownCode
  control_bytes g Control.NoOp = end_bytes _ _ _ _ _ refl
  control_bytes g Control.Sense = end_bytes _ _ _ _ _ sense-bytes
  control_bytes g (Control.Seek k) = arrival_bytes (addressed g k x.job.position.cylinder x.sent)
  control_bytes g Control.SetMask = mask_bytes_lem (get_or x.sent 0 0)
  control_bytes g Control.SpaceRecord = end_bytes _ _ _ _ _ refl

  new-bytes : (k : Task) (first : ℕ) (n : Counts) (need : ℕ) (v : List ℕ) → TurnBytes (new_turn x k first n need v)
  unfolding new_turn given all_under
  new-bytes k first n need v = pick_all TurnBytes (fits first need) (end_bytes _ _ _ _ _ refl) (fail_bytes Row.NoRoom)

  write_bytes : (w : Write) → TurnBytes (write_turn w x)
  unfolding write_turn home_turn r0_turn record_turn update_turn end_turn given all_under
  write_bytes Write.HomeAddress = end_bytes _ _ _ _ _ refl
  write_bytes Write.R0 = new-bytes _ _ _ _ _
  write_bytes Write.CountKeyData = new-bytes _ _ _ _ _
  write_bytes (Write.Update key) = pick_all TurnBytes x.recorded (end_bytes _ _ _ _ _ refl) (fail_bytes Row.Unreadable)

  act_bytes : (g : Shape) (a : Act) → TurnBytes (act_turn g a x)
  unfolding act_turn search_turn field_turn read_turn end_turn given all_under
  act_bytes g (Act.Control a) = control_bytes g a
  act_bytes g (Act.Search h) = end_bytes _ _ _ _ _ refl
  act_bytes g (Act.Read c) = end_bytes _ _ _ _ _ (offered-bytes x.job.names c x.job.counts x.seen b e)
  act_bytes g (Act.Write w) = write_bytes w

module _ (g : Shape) (t : Tracks) (s : Position) (o : Orders) (code : ℕ) (v : List ℕ) (b : SenseBytes s.sense) where
  got_bytes : (l : List TrackArea) (k : Task) (y : Result Counts Row) → GotBytes y → TurnBytes (ready_turn g t s o v l (has_read code (rule_of code) s o k y))
  unfolding ready_turn has_read sight
  got_bytes l k (Ok n) c = act_bytes (sight t (job_of code (rule_of code) s o k n) v) b (seen_bytes t _) c g _
  got_bytes l k (Err row) c = check-bytes s o l row

  plan_bytes : (l : List TrackArea) (p : Result Task Row) → TurnBytes (ready_turn g t s o v l (ready_by t code (rule_of code) s o p))
  unfolding ready_turn ready_by
  plan_bytes l (Err row) = check-bytes s o l row
  plan_bytes l (Ok k) = got_bytes l k _ (gets-bytes (rule_of code).names t k.head k.place)

  pub command-bytes : TurnBytes (command g t s o code v)
  unfolding command rule_turn
  command-bytes = plan_bytes _ (plan_of (rule_of code) (marks_of t) s o)
