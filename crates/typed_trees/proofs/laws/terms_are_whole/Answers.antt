use Rattle.typed_trees.proofs.WholeShapes.{shape_whole}
use Rattle.typed_trees.proofs.laws.terms_are_whole.Goals as goal

pub returns : goal.returns
returns c = shape_whole
