use Rattle.typed_trees.proofs.LocalTypes.{all_follow}
use Rattle.typed_trees.proofs.laws.types_follow.Goals as goal

pub returns : goal.returns
returns c = all_follow
