use Rattle.std.proofs.Common.{◌∙◌}
use Rattle.choice_tree.specs.WeightedTrees.{no_weighted}
use Rattle.choice_tree.specs.WeightedViews.{one}
use Rattle.choice_tree.specs.StatementViews.{weighted_arm, weighted_body, weighted_else}
use Rattle.choice_tree.proofs.Places.{arm_there, behind_arms}
use Rattle.choice_tree.proofs.node.arm_at.Goals as goal

pub returns-in-Some-clause-tree : goal.returns-in-Some-clause-tree
returns-in-Some-clause-tree c =
    arm_there weighted_arm c.args.arms.now (weighted_else c.args.last.now) c.args.i
    c.in-Some.arm.now c.in-Some.ensures.tree

pub returns-in-Some-last-clause-tree : goal.returns-in-Some-last-clause-tree
returns-in-Some-last-clause-tree c =
    rw c.in-Some-last.is
    (c.body_child.ensures.tree
    ∙ behind_arms weighted_arm c.args.arms.now (one (weighted_body c.in-Some-last.body))
    c.args.i c.in-None.ensures.tree)

pub returns-in-None-last-clause-tree : goal.returns-in-None-last-clause-tree
returns-in-None-last-clause-tree c =
    rw c.in-None-last.is
    (behind_arms weighted_arm c.args.arms.now no_weighted c.args.i c.in-None.ensures.tree)
