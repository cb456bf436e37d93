-- REFERENCE 1.4, 10.2: what the contracts of the exported routines say of an outcome, the result and what is left of all that was lent. Each statement is
-- the routine's `ensures` word for word, with `x` for what a parameter was at entry and `x'` for what is left of it; tests/claims compares the two.
use Rattle.std.specs.Prelude.{ℕ, ◌≡◌, List, length, eqb}
use Rattle.cells.specs.Cells.{pick, bytes_of}
use Rattle.house_check.specs.Check.{check}
use Rattle.held.specs.Held.{fresh, held_bytes, encoded, bit}
use Rattle.look.specs.Look.{marker_call, looked, area_call}
use Rattle.box_export.specs.Calls.{call, shape, start_call, go_call}

-- an outcome: the result, and the held bytes, storage and cells as they are left
pub record Outcome : Type 0 where
  pub result : ℕ
  pub held : List ℕ
  pub storage : List ℕ
  pub cells : List ℕ

-- `poplar_fresh`
abbrev pub FreshSays : List ℕ → ℕ → List ℕ → Type 0
FreshSays bytes r bytes' =
    (r ≡ bit (eqb (length bytes) held_bytes)) × (bytes' ≡ pick (eqb (length bytes) held_bytes) (encoded fresh) bytes)

-- `poplar_start`
abbrev pub StartSays : ℕ → ℕ → List ℕ → List ℕ → List ℕ → ℕ → List ℕ → List ℕ → List ℕ → Type 0
StartSays cylinders heads bytes storage cells r bytes' storage' cells' =
    call r bytes' storage' cells' ≡ start_call (shape cylinders heads) bytes storage cells

-- `poplar_go`
abbrev pub GoSays : ℕ → ℕ → ℕ → List ℕ → List ℕ → List ℕ → ℕ → List ℕ → List ℕ → List ℕ → Type 0
GoSays cylinders heads allowance bytes storage cells r bytes' storage' cells' =
    call r bytes' storage' cells' ≡ go_call (shape cylinders heads) allowance bytes storage cells

-- `poplar_check`
abbrev pub CheckSays : List ℕ → ℕ → Type 0
CheckSays cells r = r ≡ check (bytes_of cells)

-- `poplar_marker`
abbrev pub MarkerSays : List ℕ → ℕ → ℕ → Type 0
MarkerSays track place r = r ≡ marker_call track place

-- `poplar_area`
abbrev pub AreaSays : List ℕ → ℕ → ℕ → List ℕ → ℕ → List ℕ → Type 0
AreaSays track «record» part area r area' = looked r area' ≡ area_call track «record» part area

-- the statement of `poplar_start` or `poplar_go`, of an outcome
abbrev pub Says : (ℕ → List ℕ → List ℕ → List ℕ → Type 0) → Outcome → Type 0
Says P x = P x.result x.held x.storage x.cells

-- any two outcomes that satisfy the statement of a routine coincide
pub record Pinned : Type 0 where
  pub fresh_pinned : (v : List ℕ) (r r' : ℕ) (x x' : List ℕ) → FreshSays v r x → FreshSays v r' x' → (r ≡ r') × (x ≡ x')
  pub start_pinned : (cylinders heads : ℕ) (v s c : List ℕ) (x x' : Outcome)
      → Says (StartSays cylinders heads v s c) x → Says (StartSays cylinders heads v s c) x' → x ≡ x'
  pub go_pinned : (cylinders heads allowance : ℕ) (v s c : List ℕ) (x x' : Outcome)
      → Says (GoSays cylinders heads allowance v s c) x → Says (GoSays cylinders heads allowance v s c) x' → x ≡ x'
  pub check_pinned : (c : List ℕ) (r r' : ℕ) → CheckSays c r → CheckSays c r' → r ≡ r'
  pub marker_pinned : (t : List ℕ) (place r r' : ℕ) → MarkerSays t place r → MarkerSays t place r' → r ≡ r'
  pub area_pinned : (t : List ℕ) (c p : ℕ) (v : List ℕ) (r r' : ℕ) (x x' : List ℕ)
      → AreaSays t c p v r x → AreaSays t c p v r' x' → (r ≡ r') × (x ≡ x')
