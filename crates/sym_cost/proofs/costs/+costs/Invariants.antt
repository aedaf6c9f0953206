use Rattle.std.proofs.Common.{◌≡◌, ◌+◌, ◌-◌, ◌*◌, ℕ, Bool, List, map, take, drop, length, None}
use Rattle.bit_words.specs.Logic.{Extends}
use Rattle.choice_tree.specs.Costs.{sum_of}
use Rattle.choice_tree.specs.NodeViews.{node_of, pick_of}
use Rattle.choice_tree.specs.PickViews.{others_seen}
use Rattle.choice_tree.specs.Selections.{chosen, cost}
use Rattle.choice_tree.specs.WeightedTrees.{children, nodes}
use Rattle.sym_nodes.specs.Environments.{PicksRead}
use Rattle.sym_cost.specs.Notations.{HasRoom, IsCostIn, IsNotedIn, Spells, Writes}
use Rattle.sym_cost.specs.Picked.{HasNoPick, tree_of_pick}
use Rattle.sym_cost.proofs.Choosing.{member_costs}
use Rattle.sym_cost.proofs.costs.+costs.Given as goal

abbrev pub decreases-node_cost : goal.decreases-node_cost
decreases-node_cost g l = 3 * nodes (node_of l.node) + 2

abbrev pub decreases-parts_cost : goal.decreases-parts_cost
decreases-parts_cost g l = 3 * nodes (node_of l.node) + 1

abbrev pub decreases-pick_cost : goal.decreases-pick_cost
decreases-pick_cost g l = 3 * nodes (tree_of_pick l.pick) + 1

abbrev pub decreases-other_cost : goal.decreases-other_cost
decreases-other_cost g l = 3 * nodes (node_of l.node) + 3

-- the total and the costs of the children that are left make the whole
abbrev pub invariant-parts_cost-parts : goal.invariant-parts_cost-parts
invariant-parts_cost-parts g l =
    let logic = g.L.Logic in
    let kids = children (node_of l.fn.node) in
    record {
      extends : Extends logic.owns logic.reads logic.count l.fn.g l.g;
      untouched : HasNoPick (node_of l.fn.node) → l.g ≡ l.fn.g;
      none : HasNoPick (node_of l.fn.node) → l.total ≡ None;
      made : IsCostIn logic.owns l.g l.notation l.total;
      value : (vs : List Bool) (m : ℕ → ℕ) → PicksRead (logic.reads l.fn.g vs) l.fn.picks m
          → HasRoom l.notation (sum_of (cost m) kids)
          → (n : ℕ) × Writes (logic.reads l.g vs) l.notation l.total n × (n + sum_of (cost m) (drop
          l.i kids) ≡ sum_of (cost m) kids);
    }

abbrev pub decreases-parts_cost-parts : goal.decreases-parts_cost-parts
decreases-parts_cost-parts g l = length (children (node_of l.fn.node)) - l.i

-- what was chosen so far is chosen of the members so far
abbrev pub invariant-pick_cost-loop-i : goal.invariant-pick_cost-loop-i
invariant-pick_cost-loop-i g l =
    let logic = g.L.Logic in
    record {
      extends : Extends logic.owns logic.reads logic.count l.fn.g l.g;
      made : IsNotedIn logic.owns l.g l.notation l.chosen;
      value : (vs : List Bool) (m : ℕ → ℕ) → PicksRead (logic.reads l.fn.g vs) l.fn.picks m
          → HasRoom l.notation (chosen (m (pick_of l.pick).number) (cost m (pick_of l.pick).base)
          (take l.i (member_costs m (others_seen l.pick))))
          → Spells l.notation (map (logic.reads l.g vs) l.chosen)
          (chosen (m (pick_of l.pick).number) (cost m (pick_of l.pick).base)
          (take l.i (member_costs m (others_seen l.pick))));
    }
