use Rattle.std.proofs.Common.{◌≡◌, ◌+◌, ◌-◌, ◌*◌, drop, length}
use Rattle.choice_tree.specs.Selections.{has_member, any_of}
use Rattle.choice_tree.specs.WeightedTrees.{children, nodes}
use Rattle.choice_tree.specs.NodeViews.{node_of}
use Rattle.choice_tree.proofs.fitting.+has_member.Given as goal

abbrev pub decreases-has_member : goal.decreases-has_member
decreases-has_member l = 2 * nodes (node_of l.node) + 1

abbrev pub decreases-part_has_member : goal.decreases-part_has_member
decreases-part_has_member l = 2 * nodes (node_of l.node)

-- the children that are left decide
abbrev pub invariant-part_has_member-parts : goal.invariant-part_has_member-parts
invariant-part_has_member-parts l =
    any_of (λ w. has_member w l.fn.choice.pick l.fn.choice.member) (children (node_of l.fn.node))
    ≡ any_of (λ w. has_member w l.fn.choice.pick l.fn.choice.member)
    (drop l.i (children (node_of l.fn.node)))

abbrev pub decreases-part_has_member-parts : goal.decreases-part_has_member-parts
decreases-part_has_member-parts l = length (children (node_of l.fn.node)) - l.i
