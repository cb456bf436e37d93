-- What a write lays lies within what it may reach. A format write's cells go from its first to the track's end, since it fits; an update's go over its
-- areas with their checks, which are byte cells and so lie on the track.
use Prim.Native.Nat.{ℕ, ◌+◌, ◌<◌, ◌≤◌, max}
use mathlib.Core.Path.{◌≡◌, refl, sym, ap, ◌∙◌}
use mathlib.Core.Bool.{Bool, true, false, false≢true}
use mathlib.Core.List.{List, [], ◌∷◌, ◌++◌}
use native.Mathlib.Omega.{arith}
use lib.ListN.{length, get_or}
use lib.Dec.{ltb, leb}
use borrow.Author.Tests.{ltb-true, lt-ltb, le-leb}
use Rattle.cells.specs.Cells.{both, either, part, padded, overlay, track_cells}
use Rattle.cells.proofs.Laws.{length-overlay}
use Rattle.cells.proofs.Tests.{both_of}
use Rattle.house_check.specs.Check as House
use Rattle.areas.specs.declared.{Area.Area, Counts.Counts}
use Rattle.areas.specs.Areas.{home_bytes, r0_first, key_area, data_area, end_by, needed, flag_after}
use Rattle.room.specs.Room.{fits}
use Rattle.room.proofs.Laws.{fits_ends}
use Rattle.pack.specs.declared.{Head.Head}
use Rattle.command.specs.Command.{named, Sight, writes_over, all_recorded, fail_turn, end_turn, end_turn_at, piece, to_end, home_turn, new_turn, r0_turn, record_turn, over_piece, key_sent, update_turn, write_turn}
use Rattle.format.proofs.Laws.{length-area, length-new}
use Rattle.table.specs.declared.{Write.Write}
use Rattle.turn.specs.Turn.{Piece, Turn, lay, check_turn}
use Rattle.command.specs.declared.{Task.Task}
use Rattle.command.proofs.Pieces.{length-to_end, Over, over_in}
use Rattle.command.specs.Frame.{LaysUnder}
use Rattle.claim_box.specs.Confined.{among, in_area, in_key, in_data, reaches, OnTrack}
use Rattle.claim_box.proofs.Outside.{in_between, overlay-kept, pick_by}

-- ---- pieces that end on the track, all their cells among those that a test allows

abbrev pub Within : (ℕ → Bool) → List Piece → Type 0
Within f [] = Unit {0}
Within f (p ∷ l) =
    (p.first + length p.cells ≤ track_cells) × ((i : ℕ) → p.first ≤ i → i < p.first + length p.cells → f i ≡ true) × Within f l

pub within_append : (f : ℕ → Bool) (l m : List Piece) → Within f l → Within f m → Within f (l ++ m)
within_append f [] m p q = q
within_append f (x ∷ l) m p q = (p.0, p.1, within_append f l m p.2 q)

-- by a test that allows as much
pub within_by : (f g : ℕ → Bool) → ((i : ℕ) → f i ≡ g i) → (l : List Piece) → Within f l → Within g l
within_by f g e [] p = tt
within_by f g e (x ∷ l) p = (p.0, λ i h k. sym (e i) ∙ p.1 i h k, within_by f g e l p.2)

-- the track keeps its length, and every cell that the test does not allow
pub within_long : (f : ℕ → Bool) (l : List Piece) (t : List ℕ) → Within f l → length t ≡ track_cells → length (lay l t) ≡ track_cells
unfolding lay
within_long f [] t p e = e
within_long f (x ∷ l) t p e =
    within_long f l (overlay t x.first x.cells) p.2 (length-overlay t x.first x.cells (omega (arith, p.0, e)) ∙ e)

pub within_kept : (f : ℕ → Bool) (l : List Piece) (t : List ℕ) → Within f l → length t ≡ track_cells → (i : ℕ) → f i ≡ false
    → get_or (lay l t) i 0 ≡ get_or t i 0
unfolding lay
within_kept f [] t p e i off = refl
within_kept f (x ∷ l) t p e i off =
    within_kept f l (overlay t x.first x.cells) p.2 (length-overlay t x.first x.cells (omega (arith, p.0, e)) ∙ e) i off
    ∙ overlay-kept t x.first x.cells i (omega (arith, p.0, e)) (out (among x.first (length x.cells) i) refl)
  where
    out : (b : Bool) → among x.first (length x.cells) i ≡ b → b ≡ false
    out true q = let h = in_between x.first (length x.cells) i q in absurd (false≢true (sym off ∙ p.1 i h.0 h.1))
    out false q = refl

pub within_on : (h : Head) (f : ℕ → Bool) (l : List Piece) → LaysUnder h l → Within f l → OnTrack h l
within_on h f [] u p = tt
within_on h f (x ∷ l) u p = (u.0, p.0, within_on h f l u.1 p.2)

-- ---- a write's

module _ (x : Sight) where
  -- from a cell to the track's end
  format_within : (f : ℕ → Bool) (first : ℕ) (v : List ℕ) → first + length v ≤ track_cells → ((i : ℕ) → first ≤ i → f i ≡ true)
      → Within f (piece x first (to_end first v) ∷ [])
  unfolding piece
  format_within f first v h all = (length-to_end first v h, λ i p q. all i p, tt)

  new_within : (k : Task) (first : ℕ) (n : Counts) (need : ℕ) (v : List ℕ) → length v ≡ need
      → Within (leb first) (new_turn x k first n need v).lays
  unfolding new_turn end_turn_at fail_turn check_turn
  new_within k first n need v e =
      pick_by (λ (y : Turn). Within (leb first) y.lays) (fits first need)
      (λ q. format_within (leb first) first v (omega (arith, e, fits_ends first need q)) (λ i h. le-leb first i h)) (λ q. tt)

  -- over an area of n bytes, if there are any
  over_within : (f : ℕ → Bool) (a : Area) (from n : ℕ) → (0 < n → a.first + n + 2 ≤ track_cells)
      → (0 < n → (i : ℕ) → a.first ≤ i → i < a.first + (n + 2) → f i ≡ true) → Within f (over_piece x a from n)
  unfolding over_piece piece
  over_within f a from n end_turn all =
      pick_by (Within f) (ltb 0 n)
      (λ q.
      let h = ltb-true 0 n q in
      let l = length-area n (part x.sent from n) in
      (omega (arith, end_turn h, l), λ i j k. all h i j (omega (arith, k, l)), tt)) (λ q. tt)

  module _ (c : ℕ) (n : Counts) (t : List ℕ) (e : length t ≡ track_cells) where
    data_within : (key : Bool) → Over t key c n → Within (reaches (Write.Update key) c n) (over_piece x (data_area c n) (key_sent key n) n.dl)
    unfolding reaches in_data in_area data_area
    data_within key O =
        over_within _ (data_area c n) (key_sent key n) n.dl (λ h. omega (arith, O.data_in h, e))
        (λ h i p q.
        let m : i < (data_area c n).first + (max 1 n.dl + 2) = omega (arith, q, h) in
        pick_by (λ (b : Bool). b ≡ true) (both key (in_key c n i)) (λ k. refl)
        (λ k. both_of (lt-ltb 0 n.dl h) (both_of (le-leb _ _ p) (lt-ltb _ _ m))))

    key_within : (key : Bool) → Over t key c n → Within (reaches (Write.Update key) c n) (over_piece x (key_area c n) 0 (key_sent key n))
    unfolding key_sent reaches in_key in_area key_area over_piece
    key_within true O =
        over_within _ (key_area c n) 0 n.kl (λ h. omega (arith, O.key_in h, e))
        (λ h i p q. ap (λ (b : Bool). either b (in_data c n i)) (both_of (lt-ltb 0 n.kl h) (both_of (le-leb _ _ p) (lt-ltb _ _ q))))
    key_within false O = tt

    update_within : (key : Bool) → x.recorded ≡ all_recorded t (named c key true n)
        → Within (reaches (Write.Update key) c n) (update_turn key x c n).lays
    unfolding update_turn end_turn end_turn_at fail_turn check_turn
    update_within key rec =
        pick_by (λ (y : Turn). Within (reaches (Write.Update key) c n) y.lays) x.recorded
        (λ q.
        let O = over_in t key c n (sym rec ∙ q) in
        within_append _ (over_piece x (key_area c n) 0 (key_sent key n)) _ (key_within key O) (data_within key O)) (λ q. tt)

  pub write_within : (t : List ℕ) → length t ≡ track_cells → (k : Write)
      → x.recorded ≡ all_recorded t (writes_over k x.job.task.place x.job.counts)
      → Within (reaches k x.job.task.place x.job.counts) (write_turn k x).lays
  unfolding write_turn home_turn r0_turn record_turn end_turn end_turn_at reaches needed writes_over
  write_within t e Write.HomeAddress rec =
      format_within _ 0 (House.cells_with_check (padded home_bytes x.sent)) (omega (arith, length-area home_bytes x.sent)) (λ i h. le-leb 0 i h)
  write_within t e Write.R0 rec = new_within x.job.task r0_first _ _ _ (length-new _ x.sent)
  write_within t e Write.CountKeyData rec =
      new_within _ (end_by x.job.task.place x.job.counts) _ _ _ (omega (arith, length-new (flag_after x.job.counts.flag) x.sent))
  write_within t e (Write.Update key) rec = update_within x.job.task.place x.job.counts t e key rec
