use Rattle.std.proofs.Common.{◌≡◌, ◌+◌, ◌-◌, ◌*◌, ◌≤◌, drop, length}
use Rattle.choice_tree.specs.Selections.{choices, stopped}
use Rattle.choice_tree.specs.Costs.{product_of}
use Rattle.choice_tree.specs.WeightedTrees.{children, nodes}
use Rattle.choice_tree.specs.NodeViews.{node_of}
use Rattle.choice_tree.proofs.counting.+choices.Given as goal

abbrev pub decreases-stopped_choices : goal.decreases-stopped_choices
decreases-stopped_choices l = 2 * nodes (node_of l.node) + 1

abbrev pub decreases-part_choices : goal.decreases-part_choices
decreases-part_choices l = 2 * nodes (node_of l.node)

-- the total and the choices of the children that are left make the whole
abbrev pub invariant-part_choices-parts : goal.invariant-part_choices-parts
invariant-part_choices-parts l = record {
  whole : stopped (l.fn.first * product_of choices (children (node_of l.fn.node)))
      ≡ stopped (l.total * product_of choices (drop l.i (children (node_of l.fn.node))));
  some : 1 ≤ l.total;
  few : l.total ≤ 1000000000000;
}

abbrev pub decreases-part_choices-parts : goal.decreases-part_choices-parts
decreases-part_choices-parts l = length (children (node_of l.fn.node)) - l.i
