-- The bytes sent are the part of storage that the word names; what is given comes back to that part. A turn that gives lays nothing, one that takes gives
-- nothing, and a Unit Check lays nothing: so one transfer of bytes, or of cells, is all of a turn.
use Prim.Native.Nat.{ℕ, ◌+◌, ◌-◌, ◌≤◌}
use mathlib.Core.Path.{◌≡◌, refl, sym, ap, ap₂, ◌∙◌, subst}
use mathlib.Core.Bool.{Bool, true, false}
use mathlib.Core.List.{List, [], append_assoc}
use native.Mathlib.Omega.{arith}
use lib.ListN.{length, take, drop, length-take}
use lib.Seq.{drop-drop}
use borrow.Rule.Slice.PartMut.{put_mid}
use Rattle.cells.specs.Cells.{part, overlay}
use native.Mathlib.Nat.{add-zero}
use Rattle.cells.proofs.Laws.{length_part, length-overlay, overlay_same}
use Rattle.channel.proofs.Parts.{overlay_inner}
use Rattle.rows.specs.declared.{Row.Row}
use Rattle.table.specs.declared.{Control.Control, Act.Act}
use Rattle.words.specs.declared.{Word.Word}
use Rattle.words.specs.Words.{AreaFits}
use Rattle.pack.specs.declared.{Shape.Shape}
use Rattle.held.specs.declared.{Held.Held, Position.Position, Orders.Orders}
use Rattle.turn.specs.declared.{Transfer.Transfer, Report.Report}
use Rattle.turn.specs.Turn.{TrackArea, Piece, Moves, None, Gives, Takes, alone, given, transfer_of, filled, Turn, report_of, lay, is_check, check_turn}
use Rattle.command.specs.declared.{Job.Job}
use Rattle.command.specs.Command.{sight, ready_of, command}
use Rattle.command.proofs.Acts.{LaysBy, Lays, check_keeps, acts_keeps}
use Rattle.command.proofs.Comes.{job_acts, row_ends}
use Rattle.unit.specs.Unit.{job_turn, Accepts}
use Rattle.unit.proofs.Laws.{filled_none}
use Rattle.ending.specs.Ending.{check_report}
use Rattle.ending.proofs.Laws.{failed}
use Rattle.channel.specs.Channel.{fetched, placed, held_after, with_status, storage_after, world, turn_on, obeyed_on}
use Rattle.channel.specs.Inside.{Acted, Turned}
use Rattle.std.specs.Prelude.{Err, Ok, Result}

-- ---- the part of storage that a word names

pub sent_is : (s : List ℕ) (a n : ℕ) → take (a + n - a) (drop a s) ≡ part s a n
unfolding part
sent_is s a n = let k : a + n - a ≡ n = omega arith in ap (λ (m : ℕ). take m (drop a s)) k

-- a part that is lent on comes back in its place
lent : (s t : List ℕ) (a n : ℕ) → a + n ≤ length s → length t ≡ n → put_mid a (a + n - a) s t ≡ overlay s a t
unfolding overlay
lent s t a n inside long =
    let k : a + n - a ≡ n = omega arith in
    rw (k, drop-drop, long, append_assoc)

-- bytes put into that part, as many as find room, are bytes put at the word's address, as many as its count says
module _ (s v : List ℕ) (a n : ℕ) (inside : a + n ≤ length s) where
  abbrev p : List ℕ
  p = take (a + n - a) (drop a s)

  room : length p ≡ n
  room = ap length (sent_is s a n) ∙ length_part s a n inside

  short : length (take (length p) v) ≤ length p
  short = omega (arith, length-take (length p) v)

  pub back : put_mid a (a + n - a) s (filled p 0 v) ≡ overlay s a (take n v)
  unfolding filled
  back =
      lent s (overlay p 0 (take (length p) v)) a n inside (length-overlay p 0 (take (length p) v) (omega (arith, short)) ∙ room)
      ∙ sym (overlay_inner s p (take (length p) v) a 0 (omega (arith, room, inside)) (omega (arith, short)))
      ∙ ap₂ (λ (x : List ℕ) (m : ℕ). overlay x m (take (length p) v)) (ap (overlay s a) (sent_is s a n) ∙ overlay_same s a n inside) (add-zero a)
      ∙ ap (λ (m : ℕ). overlay s a (take m v)) room

pub came_back : (s u v w : List ℕ) (a n : ℕ) → a + n ≤ length s → u ≡ filled (take (a + n - a) (drop a s)) 0 v → v ≡ w → put_mid a (a + n - a) s u ≡ overlay s a (take n w)
came_back s u v w a n inside e f = ap (put_mid a (a + n - a) s) e ∙ back s v a n inside ∙ ap (λ (z : List ℕ). overlay s a (take n z)) f

-- ---- one transfer is all of a turn

-- by the number of bytes told: what lays nothing, and what gives nothing
abbrev Alone : Transfer → List ℕ → List Piece → Type 0
Alone Transfer.None v l = (v ≡ []) × (l ≡ [])
Alone (Transfer.Gives n) v l = l ≡ []
Alone (Transfer.Takes n) v l = v ≡ []

moves_alone : (m : Moves) (l : List Piece) → LaysBy m l → Alone (transfer_of m) (given m) l
unfolding transfer_of given
moves_alone None l h = (refl, h)
moves_alone (Gives v) l h = h
moves_alone (Takes n) l h = refl

module _ (x : Turn) (d : Report) (m : Transfer) (h : Lays x) (told : d ≡ report_of x) where
  by : d.transfer ≡ m → Alone m (given x.moves) x.lays
  unfolding report_of
  by e = subst (λ (z : Transfer). Alone z (given x.moves) x.lays) (sym (ap (λ (z : Report). z.transfer) told) ∙ e) (moves_alone x.moves x.lays h.moves)

module _ (x : Turn) (d : Report) (h : Lays x) (told : d ≡ report_of x) (v t : List ℕ) where
  filled_by : given x.moves ≡ [] → v ≡ filled v 0 (given x.moves)
  filled_by e = filled_none v 0 ∙ ap (filled v 0) (sym e)

  laid_none : x.lays ≡ [] → t ≡ lay x.lays t
  unfolding lay
  laid_none e = sym (ap (λ (l : List Piece). lay l t) e)

  pub none_moves : d.transfer ≡ Transfer.None → Acted x v t v t d
  none_moves e = let a = by x d Transfer.None h told e in record { told = told; area = filled_by a.0; track = laid_none a.1 }

  pub gives_moves : (n : ℕ) (v' : List ℕ) → d.transfer ≡ Transfer.Gives n → v' ≡ filled v 0 (given x.moves) → Acted x v t v' t d
  gives_moves n v' e p = record { told = told; area = p; track = laid_none (by x d (Transfer.Gives n) h told e) }

  pub takes_moves : (n : ℕ) (t' : List ℕ) → d.transfer ≡ Transfer.Takes n → t' ≡ lay x.lays t → Acted x v t v t' d
  takes_moves n t' e p = record { told = told; area = filled_by (by x d (Transfer.Takes n) h told e); track = p }

-- a Unit Check lays nothing
pub check_laid : (x : Turn) (d : Report) (t : List ℕ) (b : Bool) → Lays x → d ≡ report_of x → b ≡ is_check d.ending → b ≡ true → t ≡ lay x.lays t
unfolding report_of lay
check_laid x d t b h told e f =
    sym (ap (λ (l : List Piece). lay l t) (h.checked (sym (ap (λ (z : Report). is_check z.ending) told) ∙ sym e ∙ f)))

pub job_lay : (g : Shape) (j : Job) (v t : List ℕ) → Lays (job_turn g t j v)
job_lay g j v t = (acts_keeps (sight (alone t) j v) g j.act).lays

pub not_check : (g : Shape) (j : Job) (v t : List ℕ) (d : Report) (b : Bool) → d ≡ report_of (job_turn g t j v) → b ≡ is_check d.ending → b ≡ false
    → Accepts j v t
unfolding report_of
not_check g j v t d b told e f = record { shape = g; ends = sym (ap (λ (z : Report). is_check z.ending) told) ∙ sym e ∙ f }

-- ---- a command

-- a Unit Check: nothing is given and nothing laid
fails_acted : (st : Position) (o : Orders) (l : List TrackArea) (row : Row) (v t : List ℕ) (d : Report) → d ≡ check_report st o row
    → Acted (check_turn st o l row) v t v t d
unfolding check_turn given lay
fails_acted st o l row v t d e =
    let told : d ≡ report_of (check_turn st o l row) = e ∙ sym (failed st o l row) in
    record { told = told; area = filled_none v 0; track = refl }

module _ (g : Shape) (st : Position) (o : Orders) (code : ℕ) (v t : List ℕ) (x : Result Job Row) (ready : x ≡ ready_of (alone t) st o code) where
  pub row_acted : (row : Row) (d : Report) → x ≡ Err row → d ≡ check_report st o row → Acted (command g (alone t) st o code v) v t v t d
  row_acted row d q e =
      subst (λ (z : Turn). Acted z v t v t d) (row_ends (alone t) st o code row (sym q ∙ ready) g v) (fails_acted st o _ row v t d e)

  pub job_acted : (j : Job) (v' t' : List ℕ) (d : Report) → x ≡ Ok j → Acted (job_turn g t j v) v t v' t' d → Acted (command g (alone t) st o code v) v t v' t' d
  job_acted j v' t' d q e =
      subst (λ (z : Turn). Acted z v t v' t' d) (job_acts (alone t) st o code j (sym q ∙ ready) g v) e

-- ---- a word

module _ (g : Shape) (h : Held) (w : Word) (s t : List ℕ) where
  abbrev sent : List ℕ
  sent = take (w.address + w.count - w.address) (drop w.address s)

  abbrev back_in : List ℕ → List ℕ
  back_in u = put_mid w.address (w.address + w.count - w.address) s u

  -- the area that was lent is the one at the word's address
  acted_there : (u t' : List ℕ) (d : Report) → AreaFits s w → Acted (command g (alone t) h.position h.orders w.code sent) sent t u t' d
      → Turned (turn_on g (world h s t) w) w s t (back_in u) t' d
  unfolding turn_on fetched placed
  acted_there u t' d r a =
      let e = ap (command g (alone t) h.position h.orders w.code) (sent_is s w.address w.count) in
      record {
        told = a.told ∙ ap report_of e;
        storage = came_back s u _ _ w.address w.count r.area a.area (ap (λ (z : Turn). given z.moves) e);
        track = a.track ∙ ap (λ (z : Turn). lay z.lays t) e;
      }

  pub obeys : (r : Held) (u t' s'' : List ℕ) (d : Report) → AreaFits s w → Acted (command g (alone t) h.position h.orders w.code sent) sent t u t' d
      → r ≡ held_after h.channel w d → s'' ≡ with_status h.channel w d (back_in u) → world r s'' t' ≡ obeyed_on g (world h s t) w
  unfolding obeyed_on storage_after
  obeys r u t' s'' d f a p q =
      let T = acted_there u t' d f a in
      λ i. world ((p ∙ ap (held_after h.channel w) T.told) i)
      ((q ∙ ap₂ (with_status h.channel w) T.told T.storage) i) (T.track i)
