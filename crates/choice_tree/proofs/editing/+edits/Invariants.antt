use Rattle.std.proofs.Common.{◌≡◌, ◌+◌, ◌-◌, ◌*◌, ◌++◌, map, drop, length}
use Rattle.choice_tree.specs.Choices.{member_of}
use Rattle.choice_tree.specs.EditViews.{edit_of, pick_number, edits_of_each, picks_of_each}
use Rattle.choice_tree.specs.WeightedTrees.{children, nodes}
use Rattle.choice_tree.specs.NodeViews.{node_of}
use Rattle.choice_tree.proofs.editing.+edits.Given as goal

abbrev pub decreases-push_edits : goal.decreases-push_edits
decreases-push_edits l = 2 * nodes (node_of l.node) + 1

abbrev pub decreases-push_parts : goal.decreases-push_parts
decreases-push_parts l = 2 * nodes (node_of l.node)

-- what was pushed and what the children that are left give
abbrev pub invariant-push_parts-parts : goal.invariant-push_parts-parts
invariant-push_parts-parts l = record {
  replaced : map edit_of l.initial.out.items
      ++ edits_of_each (member_of l.fn.s) l.fn.line (children (node_of l.fn.node))
      ≡ map edit_of l.out.items
      ++ edits_of_each (member_of l.fn.s) l.fn.line (drop l.i (children (node_of l.fn.node)));
  picks : map pick_number l.initial.out.items
      ++ picks_of_each (member_of l.fn.s) (children (node_of l.fn.node))
      ≡ map pick_number l.out.items
      ++ picks_of_each (member_of l.fn.s) (drop l.i (children (node_of l.fn.node)));
}

abbrev pub decreases-push_parts-parts : goal.decreases-push_parts-parts
decreases-push_parts-parts l = length (children (node_of l.fn.node)) - l.i
