-- What the code's looks come to, in the model's words.
use Rattle.std.proofs.Common.{ℕ, ◌≡◌, ◌<◌, ◌≤◌, List, length, Option, Some, None, Result, Ok, Err, eqb, Bool, true, false, refl, sym, ap, ◌∙◌, arith}
use lib.Dec.{leb}
use Rattle.std.proofs.lemmas.Result.{MatchResult-at_ok, MatchResult-at_err}
use Rattle.std.specs.Option.{unwrap_or}
use borrow.Author.Tests.{le-leb, lt-leb, eq-eqb, ne_eqb}
use Rattle.cells.specs.Cells.{pick, both, either, marks, track_cells}
use Rattle.hunt.specs.Hunt.{hunt}
use Rattle.areas.specs.declared.{Part.Part}
use Rattle.areas.specs.declared.Part.TheVariants.{Home, Count, Key, Data}
use Rattle.areas.specs.Parts.{part_no, part_named}
use Rattle.areas.specs.declared.numbers.NoPart.{NoPart}
use Rattle.areas.proofs.Laws.{names_part}
use Rattle.look.specs.declared.Unseen.TheVariants.{WrongCall}
use Rattle.look.specs.Look.{marked, marked_by, marked_no, marker_call, Look, part_look, part_of, call_fits, look, look_no, numbers_left, looked, looked_of, area_call}

-- a marker is told by its cell, or by one that is no cell
number_told : (f : Option ℕ) → marked_no (marked_by f) ≡ unwrap_or f track_cells
unfolding marked_by marked_no
number_told (Some p) = refl
number_told None = refl

pub marker_told : (t l : List ℕ) (place r : ℕ) (f : Option ℕ) → length t ≡ track_cells → l ≡ t → f ≡ hunt (marks l) place → r ≡ unwrap_or f track_cells
    → marker_call t place ≡ r
unfolding marker_call marked
marker_told t l place r f h e g k =
    ap (λ b. marked_no (pick b (marked_by (hunt (marks t) place)) None)) (eq-eqb (length t) track_cells h)
    ∙ number_told (hunt (marks t) place) ∙ ap (λ x. unwrap_or (hunt (marks x) place) track_cells) (sym e)
    ∙ ap (λ x. unwrap_or x track_cells) (sym g) ∙ sym k

pub no_track : (t : List ℕ) (place : ℕ) → (length t ≡ track_cells → ⊥) → marker_call t place ≡ 65535
unfolding marker_call marked marked_no
no_track t place h = ap (λ b. marked_no (pick b (marked_by (hunt (marks t) place)) None)) (ne_eqb (length t) track_cells h)

-- of two tests one is known
both_is : {a : Bool} (b : Bool) → a ≡ true → both a b ≡ b
both_is b e = ap (λ a. both a b) e

-- what a number names, another names that is equal to it
pub of_number : (x : Result Part NoPart) (q p : ℕ) → x ≡ part_named q → q ≡ p → x ≡ part_named p
of_number x q p e h = e ∙ ap part_named h

-- a part that has a number is the part of that number

numbered : (part : Part) → part_of (part_no part) ≡ part
unfolding part_of
numbered Home = refl
numbered Count = refl
numbered Key = refl
numbered Data = refl

highest : (part : Part) → part_no part ≤ 3
highest Home = omega arith
highest Count = omega arith
highest Key = omega arith
highest Data = omega arith

pub look_told : (t l : List ℕ) (c p : ℕ) (part : Part) (x : Look) → length t ≡ track_cells → l ≡ t → Ok part ≡ part_named p
    → x ≡ pick (either (eqb (part_no part) 0) (leb c track_cells)) (part_look l c part) (Err WrongCall)
    → x ≡ pick (call_fits (length t) c p 2) (part_look t c (part_of p)) (Err WrongCall)
unfolding call_fits
look_told t l c p part x h e m k =
    let n : part_no part ≡ p = MatchResult-at_ok (λ y. part_no y ≡ p) (λ d. (d.0 ≡ p) × (3 < p)) part (sym m) (names_part p) in
    let low : p ≤ 3 = omega (arith, highest part) in
    let fits = both_is (either (eqb p 0) (leb c track_cells)) (le-leb p 3 low) in
    let whole : call_fits (length t) c p 2 ≡ either (eqb p 0) (leb c track_cells) = both_is _ (eq-eqb (length t) track_cells h) ∙ fits in
    let same : part ≡ part_of p = sym (numbered part) ∙ ap part_of n in
    k ∙ ap (λ q. pick (either (eqb q 0) (leb c track_cells)) (part_look l c part) (Err WrongCall)) n
    ∙ ap (λ b. pick b (part_look l c part) (Err WrongCall)) (sym whole)
    ∙ ap (λ y. pick (call_fits (length t) c p 2) (part_look y c part) (Err WrongCall)) e
    ∙ ap (λ q. pick (call_fits (length t) c p 2) (part_look t c q) (Err WrongCall)) same

-- a number that names no part makes no fit call
both_not : (a b d : Bool) → b ≡ false → both a (both b d) ≡ false
both_not true b d e = ap (λ x. both x d) e
both_not false b d e = refl

pub look_wrong : (cells c p : ℕ) (d : NoPart) (x : Look) → Err d ≡ part_named p → Err WrongCall ≡ pick (call_fits cells c p 2) x (Err WrongCall)
unfolding call_fits
look_wrong cells c p d x m =
    let high : (d.0 ≡ p) × (3 < p) = MatchResult-at_err (λ y. part_no y ≡ p) (λ e. (e.0 ≡ p) × (3 < p)) d (sym m) (names_part p) in
    sym (ap (λ b. pick b x (Err WrongCall)) (both_not (eqb cells track_cells) (leb p 3) (either (eqb p 0) (leb c track_cells)) (lt-leb p 3 high.1)))

-- the call, with two numbers to write and without
pub call_told : (t : List ℕ) (c p : ℕ) (v : List ℕ) → length v ≡ 2
    → area_call t c p v ≡ looked_of (pick (call_fits (length t) c p 2) (part_look t c (part_of p)) (Err WrongCall)) v
unfolding area_call look
call_told t c p v h = ap (λ n. looked_of (pick (call_fits (length t) c p n) (part_look t c (part_of p)) (Err WrongCall)) v) h

pub call_wrong : (t : List ℕ) (c p : ℕ) (v : List ℕ) → (length v ≡ 2 → ⊥) → area_call t c p v ≡ looked 0 v
unfolding area_call look call_fits looked_of look_no numbers_left
call_wrong t c p v h =
    let wrong = both_not (eqb (length t) track_cells) (eqb (length v) 2) _ (ne_eqb (length v) 2 h) in
    ap (λ b. looked_of (pick b (part_look t c (part_of p)) (Err WrongCall)) v) wrong
