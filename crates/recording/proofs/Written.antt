-- What is recorded can be read: an area that was written is readable, and reading it returns its bytes.
use Prim.Native.Nat.{ℕ, ◌+◌, ◌≤◌}
use mathlib.Core.Path.{◌≡◌, sym, ap, ◌∙◌}
use mathlib.Core.Bool.{true}
use mathlib.Core.List.{List}
use native.Mathlib.Omega.{arith}
use lib.ListN.{length, take}
use lib.Seq.{take-append_seam}
use Rattle.cells.specs.Cells.{part, overlay, bytes_of}
use Rattle.cells.proofs.Laws.{part-overlay}
use Rattle.cells.proofs.Numbers.{Bytes}
use Rattle.house_check.specs.Check.{check, good_cells, with_check, cells_with_check, sixteen}
use Rattle.house_check.proofs.Cells.{laid_good, length_laid, laid_bytes}
use Rattle.areas.specs.declared.{Part.Part}
use Rattle.areas.specs.Areas.{area, area_cells, readable, area_bytes}

module _ (t : List ℕ) (p : Part) (first : ℕ) (v : List ℕ) (bytes : Bytes v) (ends : first + length v + 2 ≤ length t) where
  cells_are : area_cells (overlay t first (cells_with_check v)) (area p first (length v)) ≡ cells_with_check v
  unfolding area_cells
  cells_are =
      ap (part (overlay t first (cells_with_check v)) first) (sym (length_laid v)) ∙ part-overlay t first (cells_with_check v) (omega (arith, length_laid v))

  pub written_readable : readable (overlay t first (cells_with_check v)) (area p first (length v)) ≡ true
  unfolding readable
  written_readable = ap (good_cells (length v)) cells_are ∙ laid_good v bytes

  pub written_reads-back : area_bytes (overlay t first (cells_with_check v)) (area p first (length v)) ≡ v
  unfolding area_bytes with_check
  written_reads-back =
      ap (λ (x : List ℕ). take (length v) (bytes_of x)) cells_are ∙ ap (take (length v)) (laid_bytes v bytes) ∙ take-append_seam v (sixteen (check v))
