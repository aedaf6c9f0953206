use Rattle.std.proofs.Common.{◌≡◌, ◌+◌, ◌-◌, ◌*◌, drop, length}
use Rattle.choice_tree.specs.Costs.{sum_of}
use Rattle.choice_tree.specs.NodeViews.{node_of}
use Rattle.choice_tree.specs.WeightedTrees.{children, nodes}
use Rattle.tree_weights.specs.Frames.{weight_in}
use Rattle.tree_weights.specs.Nodes.{loop_seen}
use Rattle.tree_weights.proofs.Spans.{reach}
use Rattle.tree_weights.proofs.frame.Frame.+weighing.Given as goal

abbrev pub decreases-after : goal.decreases-after
decreases-after l = reach l.self.now (4 * nodes (node_of l.node) + 3)

abbrev pub decreases-after_children : goal.decreases-after_children
decreases-after_children l = reach l.self.now (4 * nodes (node_of l.node) + 1)

abbrev pub decreases-after_loop : goal.decreases-after_loop
decreases-after_loop l =
    let inner = loop_seen l.inner in
    reach l.self.now (4 * (nodes inner.head + nodes inner.body) + 4)

abbrev pub decreases-after_call : goal.decreases-after_call
decreases-after_call l = reach l.self.now 1

abbrev pub decreases-after_body : goal.decreases-after_body
decreases-after_body l = reach l.self.now 0

-- what is left behind the children so far
abbrev pub invariant-after_children-parts : goal.invariant-after_children-parts
invariant-after_children-parts l =
    l.fn.left - sum_of (weight_in l.self) (children (node_of l.fn.node))
    ≡ l.rest - sum_of (weight_in l.self) (drop l.i (children (node_of l.fn.node)))

abbrev pub decreases-after_children-parts : goal.decreases-after_children-parts
decreases-after_children-parts l = length (children (node_of l.fn.node)) - l.i
