-- `channel::stop` meets its contract: the program check's status word, and a chain at its end.
use mathlib.Core.Path.{sym, subst, ap, ◌∙◌}
use native.Mathlib.Omega.{arith}
use Rattle.words.specs.Words.{Storable, stored}
use Rattle.words.proofs.Obeys.{check_storable}
use Rattle.channel.proofs.stop.Goals as goal

pub store_status-requires : goal.store_status-requires
store_status-requires c =
    subst (Storable c.args.storage.now) (sym c.program_check-status.ensures) (check_storable c.args.storage.now c.args.h.channel.key c.args.h.channel.next c.args.cause (omega arith) c.requires.1)

pub returns : goal.returns
returns c = (c.rested.ensures, c.store_status.ensures ∙ ap (stored _) c.program_check-status.ensures)
