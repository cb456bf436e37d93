-- The bytes passed are laid over the lent bytes as they were.
use mathlib.Core.Path.{◌≡◌}
use lib.ListN.{length, take, drop}
use Rattle.cells.specs.Cells.{overlay}
use Rattle.command.specs.Command.{sense_bytes}
use Rattle.controls.proofs.give_sense.Given as goal

abbrev pub invariant-loop-i : goal.invariant-loop-i
invariant-loop-i l = (l.into ≡ overlay l.initial.into 0 (take l.i (drop l.from (sense_bytes l.s)))) × (length l.into ≡ length l.initial.into)
