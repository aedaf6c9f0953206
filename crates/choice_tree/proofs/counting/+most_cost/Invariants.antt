use Rattle.std.proofs.Common.{◌≡◌, ◌+◌, ◌-◌, ◌*◌, ◌<◌, ◌^◌, max, drop, length}
use Rattle.choice_tree.specs.Selections.{most_cost, other_most_cost}
use Rattle.choice_tree.specs.Costs.{capped, sum_of}
use Rattle.choice_tree.specs.WeightedTrees.{children, nodes, nodes_in_others}
use Rattle.choice_tree.specs.WeightedViews.{members}
use Rattle.choice_tree.specs.NodeViews.{node_of, pick_of}
use Rattle.choice_tree.specs.PickViews.{others_seen}
use Rattle.choice_tree.proofs.counting.+most_cost.Given as goal

abbrev pub decreases-capped_most : goal.decreases-capped_most
decreases-capped_most l = 2 * nodes (node_of l.node) + 1

abbrev pub decreases-parts_most : goal.decreases-parts_most
decreases-parts_most l = 2 * nodes (node_of l.node)

abbrev pub decreases-pick_most : goal.decreases-pick_most
decreases-pick_most l =
    2 * (nodes (pick_of l.pick).base + nodes_in_others (pick_of l.pick).others) + 2

-- the total and the costs of the parts that are left make the whole
abbrev pub invariant-parts_most-parts : goal.invariant-parts_most-parts
invariant-parts_most-parts l = record {
  whole : capped (sum_of most_cost (children (node_of l.fn.node)))
      ≡ capped (l.total + sum_of most_cost (drop l.i (children (node_of l.fn.node))));
  fits : l.total < 2 ^ 32;
}

abbrev pub decreases-parts_most-parts : goal.decreases-parts_most-parts
decreases-parts_most-parts l = length (children (node_of l.fn.node)) - l.i

-- the greatest so far and the members that are left have the greatest of all
abbrev pub invariant-pick_most-loop-i : goal.invariant-pick_most-loop-i
invariant-pick_most-loop-i l = record {
  whole : capped (max (most_cost (pick_of l.fn.pick).base)
      (other_most_cost (pick_of l.fn.pick).others))
      ≡ capped (max l.most (other_most_cost (members (drop l.i (others_seen l.fn.pick)))));
  fits : l.most < 2 ^ 32;
}
