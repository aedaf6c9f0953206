use Rattle.typed_trees.proofs.LocalTypes.{node_follows}
use Rattle.typed_trees.proofs.laws.node_types_follow_from_locals.Goals as goal

pub returns : goal.returns
returns c = node_follows
