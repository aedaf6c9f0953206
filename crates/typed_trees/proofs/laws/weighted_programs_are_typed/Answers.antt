use Rattle.typed_trees.proofs.TypedFunctions.{program_typed}
use Rattle.typed_trees.proofs.laws.weighted_programs_are_typed.Goals as goal

pub returns : goal.returns
returns c = program_typed
