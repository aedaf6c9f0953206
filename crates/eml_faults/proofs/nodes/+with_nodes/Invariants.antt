use Rattle.std.proofs.Common.{◌≡◌, ◌-◌, ◌++◌, drop, length, map}
use Rattle.std.specs.List.{flat_map}
use Rattle.choice_tree.specs.RuleViews.{template_of}
use Rattle.eml_match.specs.Parts.{template_seen}
use Rattle.eml_faults.specs.Sides.{nodes, side_parts}
use Rattle.eml_faults.proofs.Walks.{size}
use Rattle.eml_faults.proofs.nodes.+with_nodes.Given as goal

-- what was found, and what stands in the parts that are left
abbrev pub invariant-parts : goal.invariant-parts
invariant-parts l =
    map template_seen l.fn.found.items ++ nodes (template_of l.e)
    ≡ map template_seen l.all.items
    ++ flat_map nodes (drop l.i (side_parts (template_of l.e)))

abbrev pub decreases-with_nodes : goal.decreases-with_nodes
decreases-with_nodes l = size (template_of l.e.now)

abbrev pub decreases-parts : goal.decreases-parts
decreases-parts l = length (side_parts (template_of l.e)) - l.i
