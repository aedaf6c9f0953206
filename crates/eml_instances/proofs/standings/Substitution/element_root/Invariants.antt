use Rattle.std.proofs.Common.{◌-◌, length}
use Rattle.choice_tree.specs.RuleViews.{template_of}
use Rattle.eml_match.specs.Parts.{set_elements}
use Rattle.eml_instances.specs.Substitutions.{bindings_in, locals_in}
use Rattle.eml_instances.proofs.PartNumbers.{InSet}
use Rattle.eml_instances.proofs.standings.Substitution.element_root.Given as goal

-- the number among the elements that are left
abbrev pub invariant-elements : goal.invariant-elements
invariant-elements l =
    InSet (template_of l.fn.p) (locals_in l.fn.self) (bindings_in l.fn.self) l.fn.r l.i l.n

abbrev pub decreases-elements : goal.decreases-elements
decreases-elements l = length (set_elements (template_of l.fn.p)) - l.i
