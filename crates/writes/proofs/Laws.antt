-- Laws of what a write lays: a piece that names all cells to the track's end is a format write; what is laid when the ending is no Unit Check. The areas
-- that an update goes over lie on the track.
use Prim.Native.Nat.{ℕ, ◌+◌, ◌<◌, ◌≤◌}
use mathlib.Core.Path.{◌≡◌, refl, sym, ap, ◌∙◌}
use mathlib.Core.Bool.{Bool, true, false, false≢true}
use mathlib.Core.List.{List, [], ◌∷◌, ◌++◌}
use native.Mathlib.Omega.{arith}
use lib.ListN.{length}
use lib.Dec.{ltb}
use borrow.Author.Tests.{lt-ltb}
use Rattle.cells.specs.Cells.{pick, both, overlay, part, padded}
use Rattle.cells.proofs.Tests.{first_of, second_of, first_picked}
use Rattle.rows.specs.declared.{Row.Row}
use Rattle.rows.specs.declared.Row.TheVariants.{Unreadable, NoRoom}
use Rattle.house_check.specs.Check as House
use Rattle.areas.specs.declared.{Area.Area, Counts.Counts}
use Rattle.areas.specs.Areas.{home_bytes, key_area, data_area}
use Rattle.room.specs.Room.{fits}
use Rattle.recording.specs.Recording.{area_written}
use Rattle.command.specs.Command.{area_if, named, Sight, all_recorded, fail_turn, end_turn, end_turn_at, piece, to_end, home_turn, new_turn, over_piece, key_sent, update_turn}
use Rattle.format.specs.Format.{recorded}
use Rattle.format.proofs.Laws.{recorded-lies}
use Rattle.turn.specs.Turn.{Piece, Turn, lay, is_check, check_turn}
use Rattle.command.specs.declared.{Task.Task}
use Rattle.writes.specs.Writes.{gone_over, updated, Over}

-- ---- what is laid, by the model's own choices

no_check : (b : Bool) (y : Turn) (x : Sight) (row : Row) → is_check (pick b y (fail_turn x row)).ending ≡ false → b ≡ true
unfolding fail_turn check_turn is_check
no_check true y x row e = refl
no_check false y x row e = absurd (false≢true (sym e))

module _ (x : Sight) (t : List ℕ) where
  pub home_lays : overlay t 0 (to_end 0 (House.cells_with_check (padded home_bytes x.sent))) ≡ lay (home_turn x).lays t
  unfolding home_turn end_turn end_turn_at lay piece
  home_lays = refl

  -- a new record
  module _ (k : Task) (first : ℕ) (n : Counts) (need : ℕ) (v : List ℕ) where
    pub new-fits : is_check (new_turn x k first n need v).ending ≡ false → fits first need ≡ true
    unfolding new_turn
    new-fits e = no_check (fits first need) _ x NoRoom e

    pub new_lays : fits first need ≡ true → overlay t first (to_end first v) ≡ lay (new_turn x k first n need v).lays t
    unfolding new_turn end_turn_at lay piece
    new_lays e = sym (ap (λ (y : Turn). lay y.lays t) (first_picked _ _ _ e))

-- ---- an update

laid_two : (l m : List Piece) (t : List ℕ) → lay (l ++ m) t ≡ lay m (lay l t)
unfolding lay
laid_two [] m t = refl
laid_two (p ∷ l) m t = laid_two l m (overlay t p.first p.cells)

module _ (x : Sight) where
  over_laid : (a : Area) (from n : ℕ) (t : List ℕ) → gone_over t a.first x.sent from n ≡ lay (over_piece x a from n) t
  unfolding gone_over area_written over_piece lay piece
  over_laid a from n t = go (ltb 0 n)
    where
      go : (b : Bool) → pick b (overlay t a.first (House.cells_with_check (padded n (part x.sent from n)))) t
          ≡ lay (pick b (piece x a.first (House.cells_with_check (padded n (part x.sent from n))) ∷ []) []) t
      go true = refl
      go false = refl

  module _ (key : Bool) (c : ℕ) (n : Counts) where
    pub update_recorded : is_check (update_turn key x c n).ending ≡ false → x.recorded ≡ true
    unfolding update_turn
    update_recorded e = no_check x.recorded _ x Unreadable e

    pub update_lays : (t : List ℕ) → x.recorded ≡ true → updated t key c n x.sent ≡ lay (update_turn key x c n).lays t
    unfolding update_turn updated end_turn end_turn_at
    update_lays t e =
        ap (λ (u : List ℕ). gone_over u (data_area c n).first x.sent (key_sent key n) n.dl) (over_laid (key_area c n) 0 (key_sent key n) t)
        ∙ over_laid (data_area c n) (key_sent key n) n.dl (lay (over_piece x (key_area c n) 0 (key_sent key n)) t)
        ∙ sym (laid_two (over_piece x (key_area c n) 0 (key_sent key n)) (over_piece x (data_area c n) (key_sent key n) n.dl) t)
        ∙ sym (ap (λ (y : Turn). lay y.lays t) (first_picked _ _ _ e))

-- ---- the areas that an update goes over lie on the track

module _ (t : List ℕ) where
  first_recorded : (b : Bool) (a : Area) (l : List Area) → all_recorded t (area_if b a ++ l) ≡ true → (b ≡ true → recorded t a ≡ true) × (all_recorded t l ≡ true)
  unfolding area_if all_recorded
  first_recorded true a l e = (λ q. first_of (recorded t a) _ e, second_of (recorded t a) _ e)
  first_recorded false a l e = (λ q. absurd (false≢true q), e)

  last_recorded : (b : Bool) (a : Area) → all_recorded t (area_if b a) ≡ true → b ≡ true → recorded t a ≡ true
  unfolding area_if all_recorded
  last_recorded true a e q = first_of (recorded t a) _ e
  last_recorded false a e q = absurd (false≢true q)

  key_ends : (key : Bool) (c : ℕ) (n : Counts) → (both key (ltb 0 n.kl) ≡ true → recorded t (key_area c n) ≡ true) → 0 < key_sent key n
      → (key_area c n).first + key_sent key n + 2 ≤ length t
  unfolding key_sent key_area
  key_ends true c n r h = recorded-lies t (key_area c n) (r (lt-ltb 0 n.kl h))
  key_ends false c n r h = absurd (omega arith)

  pub recorded-over : (key : Bool) (c : ℕ) (n : Counts) → all_recorded t (named c key true n) ≡ true → Over t key c n
  unfolding named data_area
  recorded-over key c n e =
      let p = first_recorded (both key (ltb 0 n.kl)) (key_area c n) (area_if (ltb 0 n.dl) (data_area c n)) e in
      record {
        keyed = λ h. record { ends = key_ends key c n p.0 h };
        body = λ h.
            let q = recorded-lies t (data_area c n) (last_recorded (ltb 0 n.dl) (data_area c n) p.1 (lt-ltb 0 n.dl h)) in
            record { ends = omega (arith, q, h) };
      }
