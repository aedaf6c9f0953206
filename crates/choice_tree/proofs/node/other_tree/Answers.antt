use Rattle.std.proofs.Common.{None, Some}
use Rattle.choice_tree.proofs.Places.{tree_at}
use Rattle.choice_tree.proofs.node.other_tree.Goals as goal

pub returns-in-None-clause-tree : goal.returns-in-None-clause-tree
returns-in-None-clause-tree c = tree_at c.args.others.now c.args.i None c.in-None.ensures.tree

pub returns-in-Some-clause-tree : goal.returns-in-Some-clause-tree
returns-in-Some-clause-tree c =
    tree_at c.args.others.now c.args.i (Some c.in-Some.other.now) c.in-Some.ensures.tree
