use Rattle.std.proofs.Common.{◌≡◌, ◌+◌, ◌-◌, ◌*◌, ◌++◌, suc, map, drop, length}
use Rattle.choice_tree.specs.WeightedTrees.{children, nodes}
use Rattle.choice_tree.specs.NodeViews.{node_of}
use Rattle.selection_numbers.specs.MemberCounts.{counts_of_each}
use Rattle.selection_numbers.proofs.member_counts.+counts.Given as goal

abbrev pub decreases-push_counts : goal.decreases-push_counts
decreases-push_counts l = 2 * nodes (node_of l.node) + 1

abbrev pub decreases-push_parts : goal.decreases-push_parts
decreases-push_parts l = 2 * nodes (node_of l.node)

-- what was pushed and what the children that are left give
abbrev pub invariant-push_parts-parts : goal.invariant-push_parts-parts
invariant-push_parts-parts l =
    map suc l.initial.out.items ++ counts_of_each (children (node_of l.fn.node))
    ≡ map suc l.out.items ++ counts_of_each (drop l.i (children (node_of l.fn.node)))

abbrev pub decreases-push_parts-parts : goal.decreases-push_parts-parts
decreases-push_parts-parts l = length (children (node_of l.fn.node)) - l.i
