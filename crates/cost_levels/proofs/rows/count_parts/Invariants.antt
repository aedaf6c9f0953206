use Rattle.std.proofs.Common.{◌≤◌, ◌-◌, length}
use Rattle.choice_tree.specs.NodeViews.{node_of}
use Rattle.choice_tree.specs.WeightedTrees.{children}
use Rattle.cost_levels.proofs.rows.count_parts.Given as goal

-- so many children are there
abbrev pub invariant-parts : goal.invariant-parts
invariant-parts l = l.i ≤ length (children (node_of l.node))

abbrev pub decreases-parts : goal.decreases-parts
decreases-parts l = length (children (node_of l.node)) - l.i
