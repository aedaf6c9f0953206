use Rattle.mpy_tree.specs.Typings.{set_of}
use Rattle.mpy_type_laws.proofs.WholeFacts.{typing_types}
use Rattle.mpy_type_laws.proofs.laws.types_have_the_least.Goals as goal

pub returns : goal.returns
returns c = λ T U p entry t u. (typing_types T p entry t).0.least (set_of U) u.closed
