-- What a turn lays lies on the track under one head. A format write's cells go to the track's end and not beyond, since it fits; an update's areas are byte
-- cells, so they lie on the track.
use Prim.Native.Nat.{ℕ, ◌+◌, ◌-◌, ◌<◌, ◌≤◌}
use mathlib.Core.Path.{◌≡◌, refl, sym, ap, ◌∙◌}
use mathlib.Core.Bool.{Bool, true, false, false≢true}
use mathlib.Core.List.{List, [], ◌∷◌, ◌++◌, append_assoc, append-nil}
use native.Mathlib.Omega.{arith}
use lib.ListN.{length, take, drop, replicate, length-append, length-replicate}
use lib.Seq.{drop-length}
use lib.Dec.{ltb}
use borrow.Author.Tests.{ltb-true, lt-ltb}
use Rattle.cells.specs.Cells.{pick, both, part, padded, overlay, track_cells}
use Rattle.cells.proofs.Laws.{length-overlay}
use Rattle.cells.proofs.Tests.{first_of, second_of}
use Rattle.house_check.specs.Check as House
use Rattle.areas.specs.declared.{Area.Area, Counts.Counts}
use Rattle.areas.specs.Areas.{key_area, data_area}
use Rattle.pack.specs.declared.{Head.Head}
use Rattle.command.specs.Command.{area_if, named, Sight, piece, to_end, over_piece, key_sent, all_recorded}
use Rattle.format.specs.Format.{recorded}
use Rattle.format.proofs.Laws.{formatted, length-area, formatted_is, recorded-lies}
use Rattle.turn.specs.Turn.{Piece, lay}

-- ---- pieces on the track under a head

abbrev pub PiecesOn : Head → List Piece → Type 0
PiecesOn h [] = Unit {0}
PiecesOn h (p ∷ l) = (p.head ≡ h) × (p.first + length p.cells ≤ track_cells) × PiecesOn h l

pub pieces_append : (h : Head) (l r : List Piece) → PiecesOn h l → PiecesOn h r → PiecesOn h (l ++ r)
pieces_append h [] r p q = q
pieces_append h (x ∷ l) r p q = (p.0, p.1, pieces_append h l r p.2 q)

-- the track keeps its length
pub length_laid : (h : Head) (l : List Piece) (t : List ℕ) → PiecesOn h l → length t ≡ track_cells → length (lay l t) ≡ track_cells
unfolding lay
length_laid h [] t p e = e
length_laid h (x ∷ l) t p e =
    length_laid h l (overlay t x.first x.cells) p.2 (length-overlay t x.first x.cells (omega (arith, p.1, e)) ∙ e)

-- ---- a format write

pub length-to_end : (at : ℕ) (v : List ℕ) → at + length v ≤ track_cells → at + length (to_end at v) ≤ track_cells
unfolding to_end
length-to_end at v h =
    omega (arith, length-append v (replicate (4096 - (at + length v)) 0), length-replicate {A = ℕ} (4096 - (at + length v)) 0)

pub format_is : (t : List ℕ) (at : ℕ) (v : List ℕ) → length t ≡ track_cells → at + length v ≤ track_cells → overlay t at (to_end at v) ≡ formatted t at v
unfolding overlay to_end
format_is t at v e h =
    let gaps : List ℕ = replicate (4096 - (at + length v)) 0 in
    let all : at + length (v ++ replicate (4096 - (at + length v)) 0) ≡ length t =
    omega (arith, e, length-append v (replicate (4096 - (at + length v)) 0), length-replicate {A = ℕ} (4096 - (at + length v)) 0) in
    ap (λ (z : List ℕ). take at t ++ (v ++ gaps) ++ z) (ap (λ (n : ℕ). drop n t) all ∙ drop-length t)
    ∙ append-nil (take at t ++ (v ++ gaps))
    ∙ sym (append_assoc (take at t) v gaps)
    ∙ ap (λ (n : ℕ). take at t ++ v ++ replicate (n - (at + length v)) 0) (sym e)
    ∙ sym (formatted_is t at v (omega (arith, e)))

-- ---- an update

module _ (t : List ℕ) where
  first_recorded : (b : Bool) (a : Area) (l : List Area) → all_recorded t (area_if b a ++ l) ≡ true
      → (b ≡ true → recorded t a ≡ true) × (all_recorded t l ≡ true)
  unfolding area_if all_recorded
  first_recorded true a l e = (λ q. first_of (recorded t a) _ e, second_of (recorded t a) _ e)
  first_recorded false a l e = (λ q. absurd (false≢true q), e)

  last_recorded : (b : Bool) (a : Area) → all_recorded t (area_if b a) ≡ true → b ≡ true → recorded t a ≡ true
  unfolding area_if all_recorded
  last_recorded true a e q = first_of (recorded t a) _ e
  last_recorded false a e q = absurd (false≢true q)

  keyed : (key : Bool) (n : Counts) → 0 < key_sent key n → both key (ltb 0 n.kl) ≡ true
  unfolding key_sent
  keyed true n h = lt-ltb 0 n.kl h
  keyed false n h = absurd (omega arith)

  -- the areas that are there lie on the track
  pub record Over (key : Bool) (c : ℕ) (n : Counts) : Type 0 where
    pub key_in : 0 < key_sent key n → (key_area c n).first + n.kl + 2 ≤ length t
    pub data_in : 0 < n.dl → (data_area c n).first + n.dl + 2 ≤ length t

  pub over_in : (key : Bool) (c : ℕ) (n : Counts) → all_recorded t (named c key true n) ≡ true → Over key c n
  unfolding named key_area data_area
  over_in key c n e =
      let p = first_recorded (both key (ltb 0 n.kl)) (key_area c n) (area_if (ltb 0 n.dl) (data_area c n)) e in
      record {
        key_in = λ h. recorded-lies t (key_area c n) (p.0 (keyed key n h));
        data_in = λ h.
            let q = recorded-lies t (data_area c n) (last_recorded (ltb 0 n.dl) (data_area c n) p.1 (lt-ltb 0 n.dl h)) in
            omega (arith, q, h);
      }

module _ (x : Sight) (h : Head) (same : x.job.task.head ≡ h) where
  pub over_on : (a : Area) (from n : ℕ) → (0 < n → a.first + n + 2 ≤ track_cells) → PiecesOn h (over_piece x a from n)
  unfolding over_piece piece
  over_on a from n inside = go (ltb 0 n) refl
    where
      go : (b : Bool) → ltb 0 n ≡ b
          → PiecesOn h (pick b (record { head = x.job.task.head; first = a.first; cells = House.cells_with_check (padded n (part x.sent from n)) } ∷ []) [])
      go true e = (same, omega (arith, inside (ltb-true 0 n e), length-area n (part x.sent from n)), tt)
      go false e = tt

keys_sent : (key : Bool) (n : Counts) → 0 < key_sent key n → key_sent key n ≡ n.kl
unfolding key_sent
keys_sent true n h = refl
keys_sent false n h = absurd (omega arith)

pub update_on : (x : Sight) (h : Head) (t : List ℕ) (key : Bool) (c : ℕ) (n : Counts) → x.job.task.head ≡ h → length t ≡ track_cells
    → all_recorded t (named c key true n) ≡ true
    → PiecesOn h (over_piece x (key_area c n) 0 (key_sent key n) ++ over_piece x (data_area c n) (key_sent key n) n.dl)
update_on x h t key c n same e rec =
    let O = over_in t key c n rec in
    pieces_append h (over_piece x (key_area c n) 0 (key_sent key n)) _
    (over_on x h same (key_area c n) 0 (key_sent key n) (λ k. omega (arith, O.key_in k, e, keys_sent key n k)))
    (over_on x h same (data_area c n) (key_sent key n) n.dl (λ k. omega (arith, O.data_in k, e)))
