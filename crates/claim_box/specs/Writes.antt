-- Document 01, "Commands"; REFERENCE 5.7, 6.2: what each write does, what it may follow and which mask bars it, by the codes alone, for every command
-- before and every mask. The table's columns are values with names; a wrong act, licence or bar in a write's row, in model and code alike, is refused here.
use Rattle.std.specs.Prelude.{ℕ, ◌≡◌, Bool, true, false, List, [], ◌∷◌, get_or, eqb, Err, Result}
use Rattle.cells.specs.Cells.{pick, both, either}
use Rattle.rows.specs.declared.{Row.Row}
use Rattle.held.specs.declared.{Orders.Orders}
use Rattle.table.specs.declared.{Act.Act, Write.Write}
use Rattle.table.specs.Table.{rule_of, write_bits}
use Rattle.command.specs.Command.{licensed, unless_barred}
use Rattle.command.specs.declared.{Task.Task}

-- ---- what may come before, by its code and whether its search was equal over the whole field

unfoldable pub one_of : ℕ → List ℕ → Bool
one_of x [] = false
one_of x (c ∷ l) = either (eqb x c) (one_of x l)

-- any command, or none
abbrev pub anything : ℕ → Bool → Bool
anything before whole = true

-- one of the first codes, or one of the second, equal so
unfoldable pub follows : List ℕ → List ℕ → ℕ → Bool → Bool
follows codes equal before whole = either (one_of before codes) (both whole (one_of before equal))

-- ---- the mask (00 bars Write HA and R0; 01 all writes; 10 HA, R0 and 1D; 11 none): whether it bars with bits 0 and 1 at 00, 01, 10, 11, in that order

abbrev pub barred_but_11 : List Bool
barred_but_11 = true ∷ true ∷ true ∷ false ∷ []

abbrev pub barred_at01_and_10 : List Bool
barred_at01_and_10 = false ∷ true ∷ true ∷ false ∷ []

abbrev pub barred_at01 : List Bool
barred_at01 = false ∷ true ∷ false ∷ false ∷ []

-- ---- the row of a code says so

pub record Needs (code : ℕ) (write : Write) (follows : ℕ → Bool → Bool) (barred : List Bool) : Type 0 where
  pub act : (rule_of code).act ≡ Act.Write write
  pub licence : (o : Orders) → licensed (rule_of code).licence o ≡ follows o.before o.whole
  pub mask : (m : ℕ) (p : Result Task Row) → unless_barred (rule_of code).bar m p ≡ pick (get_or barred (write_bits m) false) (Err Row.WriteBarred) p

pub record WritesNeed : Type 0 where
  -- Write HA needs mask 11
  pub home : Needs 0x19 Write.HomeAddress anything barred_but_11
  -- R0 follows Write HA or a Search HA equal over 4 bytes
  pub r0 : Needs 0x15 Write.R0 (follows (0x19 ∷ []) (0x39 ∷ [])) barred_but_11
  -- 1D follows Write R0, 1D, or an equal-only search (31, 29) equal over the whole field
  pub count_key_data : Needs 0x1D Write.CountKeyData (follows (0x15 ∷ 0x1D ∷ []) (0x31 ∷ 0x29 ∷ [])) barred_at01_and_10
  -- 05, data alone, follows 31 or 29 so
  pub body : Needs 0x05 (Write.Update false) (follows [] (0x31 ∷ 0x29 ∷ [])) barred_at01
  -- 0D, key and data, follows 31 so
  pub key_and_body : Needs 0x0D (Write.Update true) (follows [] (0x31 ∷ [])) barred_at01
