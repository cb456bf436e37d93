-- What every command keeps to when it acts: it reads no further area; the cells that it lays are under its task's head; a Unit Check lays none, nor does
-- any command but a write, nor a turn that takes no bytes; only the reads and Sense give bytes. Why: each ends in a Unit Check, or in one turn that is written down.
use Prim.Native.Nat.{ℕ}
use mathlib.Core.Path.{◌≡◌, refl, sym, ◌∙◌}
use mathlib.Core.Bool.{Bool, true, false, true≢false, false≢true}
use mathlib.Core.List.{List, [], ◌∷◌, ◌++◌}
use lib.ListN.{get_or}
use lib.Dec.{ltb, eqb}
use Rattle.table.specs.Table.{is_write, is_mask}
use Rattle.cells.specs.Cells.{both}
use Rattle.cells.proofs.Tests.{pick_all}
use Rattle.rows.specs.declared.{Row.Row}
use Rattle.areas.specs.declared.{Area.Area, Counts.Counts}
use Rattle.areas.specs.Areas.{key_area}
use Rattle.room.specs.Room.{fits}
use Rattle.pack.specs.declared.{Head.Head, Shape.Shape, Cylinder.Cylinder}
use Rattle.held.specs.declared.{Position.Position, Orders.Orders}
use Rattle.turn.specs.declared.{Ending.Ending}
use Rattle.table.specs.declared.{Control.Control, Write.Write, Act.Act}
use Rattle.turn.specs.Turn.{TrackArea, Piece, Moves, None, Gives, Takes, given, Turn, turn, is_check, check_turn}
use Rattle.command.specs.declared.{Task.Task, Job.Job}
use Rattle.command.specs.Command.{Sight, fail_turn, end_turn_at, end_turn, ending_of, no_op_turn, sense_turn, addressed, arrival_turn, seek_turn, masked_turn, mask_turn, space_turn, field_turn, search_turn, read_turn, home_turn, new_turn, r0_turn, record_turn, piece, over_piece, key_sent, update_turn, control_turn, write_turn, act_turn}
use Rattle.command.specs.Frame.{LaysUnder, gives_bytes}
use Rattle.std.specs.Prelude.{Ok, Err, Result}

-- only a turn that takes bytes lays cells, and only one that ends without Unit Check
abbrev pub LaysBy : Moves → List Piece → Type 0
LaysBy None l = l ≡ []
LaysBy (Gives v) l = l ≡ []
LaysBy (Takes n) l = Unit {0}

pub record Lays (y : Turn) : Type 0 where
  pub moves : LaysBy y.moves y.lays
  pub checked : is_check y.ending ≡ true → y.lays ≡ []

lays_none : (m : Moves) → LaysBy m []
lays_none None = refl
lays_none (Gives v) = refl
lays_none (Takes n) = tt

-- a turn that an act, having read these areas, may come to under a head
pub record Keeps (a : Act) (r : List TrackArea) (h : Head) (y : Turn) : Type 0 where
  pub reads : y.reads ≡ r
  pub under : LaysUnder h y.lays
  pub lays : Lays y
  pub still : is_write a ≡ false → y.lays ≡ []
  pub quiet : gives_bytes a ≡ false → given y.moves ≡ []

-- ---- the turns that there are

-- a Unit Check
pub check_keeps : (a : Act) (r : List TrackArea) (h : Head) (s : Position) (o : Orders) (row : Row) → Keeps a r h (check_turn s o r row)
unfolding check_turn given
check_keeps a r h s o row = record { reads = refl; under = tt; lays = record { moves = tt; checked = λ e. refl }; still = λ e. refl; quiet = λ e. refl }

-- no cell, no byte given
pub empty_keeps : (a : Act) (r : List TrackArea) (h : Head) (e : Ending) (m : Moves) (s : Position) (o : Orders) → given m ≡ [] → Keeps a r h (turn e m r [] s o)
empty_keeps a r h e m s o f = record { reads = refl; under = tt; lays = record { moves = lays_none m; checked = λ e. refl }; still = λ e. refl; quiet = λ e. f }

-- bytes given, no cell
gives_keeps : (a : Act) (r : List TrackArea) (h : Head) (e : Ending) (m : Moves) (s : Position) (o : Orders) → gives_bytes a ≡ true → Keeps a r h (turn e m r [] s o)
gives_keeps a r h e m s o f = record {
  reads = refl;
  under = tt;
  lays = record { moves = lays_none m; checked = λ e. refl };
  still = λ e. refl;
  quiet = λ e. absurd (true≢false (sym f ∙ e));
}

-- cells
lays_keeps : (w : Write) (r : List TrackArea) (h : Head) (e : Ending) (n : ℕ) (l : List Piece) (s : Position) (o : Orders) → is_check e ≡ false → LaysUnder h l
    → Keeps (Act.Write w) r h (turn e (Takes n) r l s o)
unfolding is_write given
lays_keeps w r h e n l s o c u = record {
  reads = refl;
  under = u;
  lays = record { moves = tt; checked = λ f. absurd (false≢true (sym c ∙ f)) };
  still = λ f. absurd (true≢false f);
  quiet = λ f. refl;
}

module _ (x : Sight) where
  abbrev At : Act → Turn → Type 0
  At a y = Keeps a x.reads x.job.task.head y

  fails_keeps : (a : Act) (row : Row) → At a (fail_turn x row)
  unfolding fail_turn
  fails_keeps a row = check_keeps a x.reads _ _ _ row

  -- ---- controls

  arrives_keeps : (a : Act) (y : Result (Cylinder × Head) Row) → At a (arrival_turn x y)
  unfolding arrival_turn given
  arrives_keeps a (Ok (c, h)) = empty_keeps a _ _ _ _ _ _ refl
  arrives_keeps a (Err row) = fails_keeps a row

  masks_keeps : (a : Act) (byte : ℕ) → At a (mask_turn x byte)
  unfolding mask_turn masked_turn given
  masks_keeps a byte =
      pick_all (At a) (is_mask byte)
      (pick_all (At a) x.job.orders.mask_set (fails_keeps a Row.SecondMask) (empty_keeps a _ _ _ _ _ _ refl))
      (fails_keeps a Row.BadMask)

  does_keeps : (g : Shape) (a : Control) → At (Act.Control a) (control_turn g a x)
  unfolding control_turn no_op_turn sense_turn seek_turn space_turn end_turn end_turn_at given gives_bytes
  does_keeps g Control.Unknown = fails_keeps _ Row.UnknownCode
  does_keeps g Control.NoOp = empty_keeps _ _ _ _ _ _ _ refl
  does_keeps g Control.Sense = gives_keeps _ _ _ _ _ _ _ refl
  does_keeps g (Control.Seek k) = arrives_keeps _ (addressed g k x.job.position.cylinder x.sent)
  does_keeps g Control.SetMask = masks_keeps _ (get_or x.sent 0 0)
  does_keeps g Control.SpaceRecord = empty_keeps _ _ _ _ _ _ _ refl

  -- ---- writes

  -- Normal or Unit Exception
  ending_well : (j : Job) → is_check (ending_of j) ≡ false
  unfolding ending_of is_check
  ending_well j = pick_all (λ (e : Ending). is_check e ≡ false) (both j.excepts (eqb j.counts.dl 0)) refl refl

  new_keeps : (w : Write) (k : Task) (first : ℕ) (n : Counts) (need : ℕ) (v : List ℕ) → At (Act.Write w) (new_turn x k first n need v)
  unfolding new_turn end_turn_at piece is_check
  new_keeps w k first n need v =
      pick_all (At (Act.Write w)) (fits first need) (lays_keeps w _ _ _ _ _ _ _ refl (refl, tt)) (fails_keeps _ Row.NoRoom)

  append-under : (h : Head) (l m : List Piece) → LaysUnder h l → LaysUnder h m → LaysUnder h (l ++ m)
  append-under h [] m u u' = u'
  append-under h (p ∷ l) m u u' = (u.0, append-under h l m u.1 u')

  over-under : (a : Area) (from n : ℕ) → LaysUnder x.job.task.head (over_piece x a from n)
  unfolding over_piece piece
  over-under a from n = pick_all (LaysUnder x.job.task.head) (ltb 0 n) (refl, tt) tt

  updates_keeps : (w : Write) (key : Bool) (c : ℕ) (n : Counts) → At (Act.Write w) (update_turn key x c n)
  unfolding update_turn end_turn end_turn_at
  updates_keeps w key c n =
      pick_all (At (Act.Write w)) x.recorded
      (lays_keeps w _ _ _ _ _ _ _ (ending_well x.job)
      (append-under _ (over_piece x (key_area c n) 0 (key_sent key n)) _ (over-under _ _ _) (over-under _ _ _)))
      (fails_keeps _ Row.Unreadable)

  writes_keeps : (w : Write) → At (Act.Write w) (write_turn w x)
  unfolding write_turn home_turn r0_turn record_turn end_turn end_turn_at piece is_check
  writes_keeps Write.HomeAddress = lays_keeps _ _ _ _ _ _ _ _ refl (refl, tt)
  writes_keeps Write.R0 = new_keeps Write.R0 _ _ _ _ _
  writes_keeps Write.CountKeyData = new_keeps Write.CountKeyData _ _ _ _ _
  writes_keeps (Write.Update key) = updates_keeps (Write.Update key) key _ _

  -- ---- all of them

  pub acts_keeps : (g : Shape) (a : Act) → At a (act_turn g a x)
  unfolding act_turn search_turn field_turn read_turn end_turn end_turn_at given gives_bytes
  acts_keeps g (Act.Control a) = does_keeps g a
  acts_keeps g (Act.Search h) = empty_keeps _ _ _ _ _ _ _ refl
  acts_keeps g (Act.Read counted) = gives_keeps _ _ _ _ _ _ _ refl
  acts_keeps g (Act.Write w) = writes_keeps w
