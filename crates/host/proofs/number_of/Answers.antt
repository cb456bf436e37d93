-- Each answer is declared with document 01's number.
use denote.Enum.Declared.{tag_of}
use mathlib.Core.Path.{◌≡◌, refl}
use Rattle.host.specs.declared.{Answer.Answer}
use Rattle.host.specs.declared.Answer.TheVariants.{ChainEnded, AllowanceUsed, BadStorage, BadPack, BadHeld, BadStart, NoChain, ChainGoing}
use Rattle.host.specs.contracts.Answer.{the_type}
use Rattle.host.specs.Host.{answer_no}
use Rattle.host.proofs.number_of.Goals as goal

numbered : (a : Answer) → tag_of the_type a ≡ answer_no a
unfolding answer_no
numbered ChainEnded = refl
numbered AllowanceUsed = refl
numbered BadStorage = refl
numbered BadPack = refl
numbered BadHeld = refl
numbered BadStart = refl
numbered NoChain = refl
numbered ChainGoing = refl

pub returns : goal.returns
returns c = numbered c.args.a
