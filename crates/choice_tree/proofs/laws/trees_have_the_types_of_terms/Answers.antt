use Rattle.choice_tree.proofs.ShapeTypes.{shape_type}
use Rattle.choice_tree.proofs.laws.trees_have_the_types_of_terms.Goals as goal

pub returns : goal.returns
returns c = shape_type
