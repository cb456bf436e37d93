-- The first arm knows that none move, and the last that some do.
use mathlib.Core.Path.{◌≡◌, refl}
use mathlib.Core.Bool.{true}
use Rattle.turn.specs.declared.{Transfer.Transfer}
use Rattle.turn.specs.declared.Transfer.TheVariants.{None, Gives, Takes}
use Rattle.channel.specs.Channel.{moves_any}
use Rattle.channel.proofs.moves_any.Goals as goal
use Rattle.channel.proofs.moves_any.Goals.{in-None, in_default}

others : (x : Transfer) → (x ≡ None → ⊥) → true ≡ moves_any x
unfolding moves_any
others None k = absurd (k refl)
others (Gives n) k = refl
others (Takes n) k = refl

pub returns : goal.returns
unfolding moves_any
returns c =
    elim c.match-matches.branch [ in-None w ↦ rw (w.matches-is, w.in-None.is) refl | in_default w ↦ rw w.matches-is (others _ w.in_default.not-None) ]
