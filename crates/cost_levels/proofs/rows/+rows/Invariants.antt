use Rattle.std.proofs.Common.{◌+◌, ◌*◌, ◌≤◌, drop, take, length}
use Rattle.choice_tree.specs.NodeViews.{node_of, pick_of}
use Rattle.choice_tree.specs.PickViews.{others_seen}
use Rattle.choice_tree.specs.WeightedTrees.{children, nodes, nodes_in_others}
use Rattle.choice_tree.specs.WeightedViews.{members}
use Rattle.cost_levels.specs.Plans.{Plan, planned, planned_each, ways_by}
use Rattle.cost_levels.specs.Rows.{Grows, IsTable, IsTableTo, Shows, ShowWays}
use Rattle.cost_levels.proofs.Tables.{GoesBackFrom}
use Rattle.cost_levels.proofs.rows.+rows.Given as goal

abbrev pub decreases-push_node : goal.decreases-push_node
decreases-push_node l = 2 * nodes (node_of l.node) + 1

abbrev pub decreases-push_parts : goal.decreases-push_parts
decreases-push_parts l = 2 * nodes (node_of l.node)

abbrev pub decreases-push_pick : goal.decreases-push_pick
decreases-push_pick l =
    2 * (nodes (pick_of l.pick).base + nodes_in_others (pick_of l.pick).others) + 2

-- the children from a place on were put before the entry
abbrev pub invariant-push_parts-parts : goal.invariant-push_parts-parts
invariant-push_parts-parts l = record {
  within : l.left ≤ length (children (node_of l.fn.node));
  grown : Grows l.fn.rows.items l.rows.items;
  table : IsTableTo l.fn.rows.items l.fn.after → IsTableTo l.rows.items l.entry;
  shown : (p : Plan) → Shows l.fn.rows.items l.fn.after p → Shows l.rows.items l.entry
      (planned_each (drop l.left (children (node_of l.fn.node))) p);
}

abbrev pub decreases-push_parts-parts : goal.decreases-push_parts-parts
decreases-push_parts-parts l = l.left

-- the base, and the members so far, go on to the entry
abbrev pub invariant-push_pick-loop-i : goal.invariant-push_pick-loop-i
invariant-push_pick-loop-i l = record {
  grown : Grows l.fn.rows.items l.rows.items;
  table : IsTableTo l.fn.rows.items l.fn.after → IsTable l.rows.items
      × GoesBackFrom (length l.rows.items) l.base l.others.items;
  base : (p : Plan) → Shows l.fn.rows.items l.fn.after p
      → Shows l.rows.items l.base (planned (pick_of l.fn.pick).base p);
  ways : (p : Plan) → Shows l.fn.rows.items l.fn.after p
      → ShowWays l.rows.items (length l.rows.items) l.others.items
      (ways_by (members (take l.i (others_seen l.fn.pick))) p);
}
