use Rattle.mpy_type_laws.proofs.WholeFacts.{typing_types}
use Rattle.mpy_type_laws.proofs.laws.facts_are_typing.Goals as goal

pub returns : goal.returns
returns c = typing_types
