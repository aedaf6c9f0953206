use Rattle.std.proofs.Common.{◌≡◌, ◌-◌, drop, length}
use Rattle.std.specs.List.{list_any}
use Rattle.choice_tree.specs.RuleViews.{template_of}
use Rattle.eml_faults.specs.Sides.{side_parts}
use Rattle.eml_faults.proofs.Walks.{has_long_in, size}
use Rattle.eml_faults.proofs.nodes.+has_long.Given as goal

-- the parts that are left decide
abbrev pub invariant-parts : goal.invariant-parts
invariant-parts l =
    has_long_in (template_of l.e) ≡ list_any has_long_in (drop l.i (side_parts (template_of l.e)))

abbrev pub decreases-has_long : goal.decreases-has_long
decreases-has_long l = size (template_of l.e.now)

abbrev pub decreases-parts : goal.decreases-parts
decreases-parts l = length (side_parts (template_of l.e)) - l.i
