use Rattle.typed_trees.proofs.GrownTypes.{grown_typed}
use Rattle.typed_trees.proofs.laws.grown_trees_have_the_type.Goals as goal

pub returns : goal.returns
returns c = grown_typed
