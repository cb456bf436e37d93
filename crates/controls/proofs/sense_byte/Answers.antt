-- Bytes 0 and 1 are sense's own, and every other is 0.
use native.Mathlib.Omega.{arith}
use Rattle.command.specs.Command.{sense_bytes}
use Rattle.controls.proofs.Laws.{sense-rest}
use Rattle.controls.proofs.sense_byte.Goals as goal

pub returns-in-0 : goal.returns-in-0
unfolding sense_bytes
returns-in-0 c = rw c.in-0.is

pub returns-in-1 : goal.returns-in-1
unfolding sense_bytes
returns-in-1 c = rw c.in-1.is

pub returns-in_default : goal.returns-in_default
returns-in_default c = rw (sense-rest _ c.args.i (omega (arith, c.in_default)))
