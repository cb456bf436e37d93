-- Demand 2, what may change: by the command, the word, the allowance, the call, and where a record does not fit.
use Rattle.pack.specs.declared.{Shape.Shape}
use Rattle.claim_box.specs.Confined.{Confined}
use Rattle.claim_box.proofs.Commands.{command_confined}
use Rattle.claim_box.proofs.Room.{room_kept}
use Rattle.claim_box.proofs.NextWord.{step_confined}
use Rattle.claim_box.proofs.Runs.{run_confined}
use Rattle.claim_box.proofs.Calls.{call_confined}

pub all_confined : (g : Shape) → Confined g
all_confined g = record {
  command = command_confined g;
  word = step_confined g;
  allowance = run_confined g;
  call = call_confined g;
  room = room_kept g;
}
