use Rattle.std.proofs.Common.{◌≡◌, ◌-◌, drop, length, nat_lt}
use Rattle.choice_tree.specs.RuleViews.{template_of}
use Rattle.eml_match.specs.Resolutions.{depth}
use Rattle.eml_faults.specs.Sides.{side_parts}
use Rattle.eml_faults.specs.Walks.{deepest}
use Rattle.eml_faults.proofs.Walks.{size}
use Rattle.eml_faults.proofs.nodes.+is_deeper.Given as goal

-- the parts that are left decide
abbrev pub invariant-parts : goal.invariant-parts
invariant-parts l =
    nat_lt l.limit (depth (template_of l.e))
    ≡ nat_lt (l.limit - 1) (deepest (drop l.i (side_parts (template_of l.e))))

abbrev pub decreases-is_deeper : goal.decreases-is_deeper
decreases-is_deeper l = size (template_of l.e.now)

abbrev pub decreases-parts : goal.decreases-parts
decreases-parts l = length (side_parts (template_of l.e)) - l.i
