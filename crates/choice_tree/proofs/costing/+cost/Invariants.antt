use Rattle.std.proofs.Common.{◌≡◌, ◌+◌, ◌-◌, ◌*◌, ◌<◌, ◌^◌, drop, length}
use Rattle.choice_tree.specs.Choices.{member_of}
use Rattle.choice_tree.specs.Selections.{cost}
use Rattle.choice_tree.specs.Costs.{capped, sum_of}
use Rattle.choice_tree.specs.WeightedTrees.{children, nodes}
use Rattle.choice_tree.specs.NodeViews.{node_of}
use Rattle.choice_tree.proofs.costing.+cost.Given as goal

abbrev pub decreases-capped_cost : goal.decreases-capped_cost
decreases-capped_cost l = 2 * nodes (node_of l.node) + 1

abbrev pub decreases-parts_cost : goal.decreases-parts_cost
decreases-parts_cost l = 2 * nodes (node_of l.node)

-- the total and the costs of the parts that are left make the whole
abbrev pub invariant-parts_cost-parts : goal.invariant-parts_cost-parts
invariant-parts_cost-parts l = record {
  whole : capped (sum_of (cost (member_of l.fn.s)) (children (node_of l.fn.node)))
      ≡ capped (l.total + sum_of (cost (member_of l.fn.s))
      (drop l.i (children (node_of l.fn.node))));
  fits : l.total < 2 ^ 32;
}

abbrev pub decreases-parts_cost-parts : goal.decreases-parts_cost-parts
decreases-parts_cost-parts l = length (children (node_of l.fn.node)) - l.i
