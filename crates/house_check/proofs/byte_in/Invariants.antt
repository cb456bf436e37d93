-- `house_check::byte_in` meets its contract. The invariant: the register, with the zeros that are left, comes to what the byte leaves.
use mathlib.Core.Path.{◌≡◌}
use mathlib.Core.List.{[]}
use Prim.Native.Nat.{◌-◌}
use lib.ListN.{replicate}
use Rattle.house_check.specs.Check.{feed, byte_bits}
use Rattle.house_check.proofs.byte_in.Given as goal

abbrev pub invariant-loop : goal.invariant-loop
invariant-loop l = feed l.x (replicate (8 - l.counter) 0) ≡ feed l.r (byte_bits l.cell [])
