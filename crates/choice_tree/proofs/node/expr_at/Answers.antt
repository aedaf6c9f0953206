use Rattle.std.proofs.Common.{None, Some}
use Rattle.choice_tree.specs.WeightedViews.{weighted_of}
use Rattle.choice_tree.proofs.Places.{listed_at}
use Rattle.choice_tree.proofs.node.expr_at.Goals as goal

pub returns-in-None-clause-tree : goal.returns-in-None-clause-tree
returns-in-None-clause-tree c = listed_at weighted_of c.args.es.now c.args.i None c.in-None.ensures.tree

pub returns-in-Some-clause-tree : goal.returns-in-Some-clause-tree
returns-in-Some-clause-tree c =
    listed_at weighted_of c.args.es.now c.args.i (Some c.in-Some.e.now) c.in-Some.ensures.tree
