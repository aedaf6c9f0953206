use Rattle.mpy_laws.proofs.Preorder.{lists_follow}
use Rattle.mpy_laws.proofs.trees.lists_follow_the_trees.Goals as goal

pub returns : goal.returns
returns c = record { holds = lists_follow }
