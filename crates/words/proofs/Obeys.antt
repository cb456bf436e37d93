-- A word that passes its tests has its area in storage.
use Prim.Native.Nat.{ℕ, ◌+◌, ◌%◌, ◌<◌, ◌≤◌}
use mathlib.Core.Path.{◌≡◌, refl}
use mathlib.Core.Bool.{Bool, true, false}
use mathlib.Core.List.{List}
use native.Mathlib.Omega.{arith}
use lib.ListN.{length}
use lib.Dec.{leb, ltb}
use borrow.Author.Tests.{leb-true}
use Rattle.cells.specs.Cells.{pick}
use Rattle.cells.proofs.Tests.{pick_all}
use Rattle.words.specs.declared.{Word.Word, Cause.Cause, Directive.Directive}
use Rattle.words.specs.declared.Cause.TheVariants.{Area}
use Rattle.words.specs.Words.{Storable, status_for, program_check, is_tic, in_place, flags_known, tested_command, tested_word, tested, word_at}
use Rattle.std.specs.Prelude.{Ok, Err, Result}
use Rattle.words.specs.declared.Directive.TheVariants.{Obey, Jump}

-- a word to obey is one whose area lies in storage
abbrev pub TestedIn : List ℕ → Result Directive Cause → Type 0
TestedIn s (Ok (Obey w)) = w.address + w.count ≤ length s
TestedIn s (Ok (Jump a)) = Unit {0}
TestedIn s (Err cause) = Unit {0}

reaches : (s : List ℕ) (w : Word) (b : Bool) → leb (w.address + w.count) (length s) ≡ b → TestedIn s (pick b (Ok (Obey w)) (Err Area))
reaches s w true e = leb-true _ _ e
reaches s w false e = tt

command_in : (s : List ℕ) (w : Word) → TestedIn s (tested_command s w)
unfolding tested_command
command_in s w =
    pick_all (TestedIn s) (flags_known w)
    (pick_all (TestedIn s) (ltb 0 w.count)
    (pick_all (TestedIn s) (ltb 0 (w.code % 16)) (reaches s w _ refl) tt)
    tt)
    tt

pub tested_in : (s : List ℕ) (at : ℕ) (tic : Bool) → TestedIn s (tested s at tic)
unfolding tested tested_word
tested_in s at tic =
    pick_all (TestedIn s) (in_place s at)
    (pick_all (TestedIn s) (is_tic (word_at s at)) (pick_all (TestedIn s) tic tt tt) (command_in s (word_at s at)))
    tt

-- a program check's status word can be stored
pub check_storable : (s : List ℕ) (key at : ℕ) (cause : Cause) → 72 ≤ length s → key < 16 → Storable s (program_check key at cause)
unfolding program_check status_for
check_storable s key at cause h k = record { reaches = h; key = k; address = omega arith }
