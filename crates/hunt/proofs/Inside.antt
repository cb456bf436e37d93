-- What the hunt comes to is a record of the track, R0 or one with a marker: so a place after it is at most the track's end.
use Prim.Native.Nat.{ℕ, suc, ◌+◌, ◌<◌, ◌≤◌}
use mathlib.Core.Path.{◌≡◌, refl, sym, ◌∙◌, subst}
use mathlib.Core.Bool.{Bool, true, false, true≢false}
use mathlib.Core.List.{List, [], ◌∷◌}
use native.Mathlib.Omega.{arith}
use native.Mathlib.Decide.{dec_lt}
use native.Mathlib.Nat.{add-zero}
use lib.ListN.{length, get_or, drop, get_or-eq_default}
use lib.Seq.{get_or-drop}
use lib.Dec.{ltb}
use Rattle.cells.specs.Cells.{track_cells, marks}
use Rattle.cells.proofs.Marks.{length-marks}
use Rattle.cells.proofs.Tests.{pick_all}
use Rattle.hunt.specs.declared.{Spot.Spot}
use Rattle.hunt.specs.declared.Spot.TheVariants.{R0, Marker}
use Rattle.hunt.specs.Hunt.{WholeTrack, scan, hunt, spot_fits, past_index, ahead_or, next_record, next_id, count_first, spaced_to, space_record}
use Rattle.std.specs.Prelude.{Some, None, Option}

-- found, or come to, a record of the track
abbrev pub FoundOn : List Bool → Option ℕ → Type 0
FoundOn m (Some p) = get_or m p false ≡ true
FoundOn m None = Unit {0}

abbrev pub NextOn : List Bool → Option (Spot × ℕ) → Type 0
NextOn m (Some (spot, n)) = spot_fits m spot ≡ true
NextOn m None = Unit {0}

-- ---- a hunt ends at a marker

scan_on : (m l : List Bool) (p : ℕ) → ((i : ℕ) → get_or l i false ≡ true → get_or m (p + i) false ≡ true) → FoundOn m (scan l p)
unfolding scan
scan_on m [] p f = tt
scan_on m (true ∷ l) p f = subst (λ (k : ℕ). get_or m k false ≡ true) (add-zero p) (f 0 refl)
scan_on m (false ∷ l) p f =
    scan_on m l (suc p) (λ i e. let k : p + suc i ≡ suc p + i = omega arith in subst (λ (j : ℕ). get_or m j false ≡ true) k (f (suc i) e))

hunt_on : (m : List Bool) (p : ℕ) → FoundOn m (hunt m p)
unfolding hunt
hunt_on m p = scan_on m (drop p m) p (λ i e. sym (get_or-drop p m i false) ∙ e)

ahead_on : (m : List Bool) (f : Option ℕ) (x : Option (Spot × ℕ)) → FoundOn m f → NextOn m x → NextOn m (ahead_or f x)
unfolding ahead_or spot_fits
ahead_on m (Some p) x h k = h
ahead_on m None x h k = k

-- past the index it is the record of the first marker
past_is : (p : ℕ) → past_index (Some p) ≡ Some (Marker p, 1)
unfolding past_index
past_is p = refl

past_on : (m : List Bool) (f : Option ℕ) → FoundOn m f → NextOn m (past_index f)
unfolding past_index spot_fits
past_on m (Some p) h = h
past_on m None h = tt

-- ---- the record that is come to

pub next_on : (m : List Bool) (p : ℕ) → NextOn m (next_record m p)
unfolding next_record
next_on m p = ahead_on m (hunt m p) _ (hunt_on m p) (past_on m (hunt m 7) (hunt_on m 7))

pub r0_on : (m : List Bool) (n : ℕ) → NextOn m (Some (R0, n))
unfolding spot_fits
r0_on m n = refl

pub id_on : (m : List Bool) (p : ℕ) → NextOn m (next_id m p)
unfolding next_id
id_on m p = pick_all (NextOn m) (ltb p 7) (r0_on m 0) (ahead_on m (hunt m p) _ (hunt_on m p) (r0_on m 1))

-- ---- its place

inside : (m : List Bool) (p : ℕ) → get_or m p false ≡ true → p < length m
inside m p e = go (dec_lt p (length m))
  where
    go : Dec (p < length m) → p < length m
    go (yes h) = h
    go (no h) = absurd (true≢false (sym e ∙ get_or-eq_default m false (omega arith)))

module _ (t : List ℕ) (w : WholeTrack t) where
  pub spot_in : (spot : Spot) → spot_fits (marks t) spot ≡ true → count_first spot ≤ track_cells
  unfolding spot_fits count_first
  spot_in R0 e = omega arith
  spot_in (Marker p) e = omega (arith, inside (marks t) p e, length-marks t, w.long)

  pub next_in : (x : Option (Spot × ℕ)) → NextOn (marks t) x → spaced_to x ≤ track_cells
  unfolding spaced_to
  next_in (Some (spot, n)) h = spot_in spot h
  next_in None h = omega arith

-- the place after Space Record
pub space_in : (t : List ℕ) (p : ℕ) (b : Bool) → WholeTrack t → space_record (marks t) p b ≤ track_cells
unfolding space_record
space_in t p true w = omega arith
space_in t p false w = next_in t w (next_record (marks t) p) (next_on (marks t) p)
