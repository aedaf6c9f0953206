use Rattle.std.proofs.Common.{◌+◌, ◌-◌, ◌*◌, length}
use Rattle.choice_tree.specs.RuleViews.{template_of}
use Rattle.eml_match.specs.Parts.{set_elements}
use Rattle.eml_match.specs.Resolutions.{depth}
use Rattle.eml_instances.specs.Alternatives.{has_type}
use Rattle.eml_instances.specs.Searches.{rule_in, scope_in}
use Rattle.eml_instances.proofs.SideLists.{Sided}
use Rattle.eml_instances.proofs.adding.+add_side.Given as goal

abbrev pub decreases-add_side : goal.decreases-add_side
decreases-add_side g l = 2 * depth (template_of l.side.now) + 1

abbrev pub decreases-add_elements : goal.decreases-add_elements
decreases-add_elements g l = 2 * depth (template_of l.side.now)

-- the alternatives by the elements so far
abbrev pub invariant-add_elements-elements : goal.invariant-add_elements-elements
invariant-add_elements-elements g l =
    let σ = scope_in g.K.Known.gives l.fn.search in
    Sided σ (has_type σ l.fn.search.wanted.ty) (rule_in l.fn.search)
    (set_elements (template_of l.fn.side)) l.initial.found.items l.found.items
    l.fn.search.wanted.most l.i

abbrev pub decreases-add_elements-elements : goal.decreases-add_elements-elements
decreases-add_elements-elements g l = length (set_elements (template_of l.fn.side)) - l.i
