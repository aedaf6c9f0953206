use Rattle.std.proofs.Common.{◌≡◌, ◌+◌, ◌-◌, ◌*◌, ◌≤◌, drop, length}
use Rattle.choice_tree.specs.RuleViews.{template_of}
use Rattle.eml_match.specs.Parts.{set_elements, template_parts}
use Rattle.eml_match.specs.Resolutions.{depth}
use Rattle.eml_instances.specs.Resolving.{counts_product, counts_sum, stopped}
use Rattle.eml_instances.specs.Substitutions.{bindings_in, locals_in}
use Rattle.eml_instances.proofs.standings.Substitution.+count.Given as goal

abbrev pub decreases-root_count : goal.decreases-root_count
decreases-root_count l = 3 * depth (template_of l.p.now) + 2

abbrev pub decreases-node_count : goal.decreases-node_count
decreases-node_count l = 3 * depth (template_of l.p.now) + 1

abbrev pub decreases-count_from : goal.decreases-count_from
decreases-count_from l = 3 * depth (template_of l.p.now)

abbrev pub decreases-count_each : goal.decreases-count_each
decreases-count_each l = 3 * depth (template_of l.p.now)

-- the total and the counts of the parts that are left make the whole
abbrev pub invariant-count_from-parts : goal.invariant-count_from-parts
invariant-count_from-parts l = record {
  whole : stopped (counts_product (drop l.fn.first (template_parts (template_of l.fn.p)))
      (locals_in l.fn.self) (bindings_in l.fn.self))
      ≡ stopped (l.total * counts_product (drop l.i (template_parts (template_of l.fn.p)))
      (locals_in l.fn.self) (bindings_in l.fn.self));
  few : l.total ≤ 64000064;
}

abbrev pub decreases-count_from-parts : goal.decreases-count_from-parts
decreases-count_from-parts l = length (template_parts (template_of l.fn.p)) - l.i

abbrev pub invariant-count_each-elements : goal.invariant-count_each-elements
invariant-count_each-elements l = record {
  whole : stopped (counts_sum (set_elements (template_of l.fn.p)) (locals_in l.fn.self)
      (bindings_in l.fn.self))
      ≡ stopped (l.total + counts_sum (drop l.i (set_elements (template_of l.fn.p)))
      (locals_in l.fn.self) (bindings_in l.fn.self));
  few : l.total ≤ 64000064;
}

abbrev pub decreases-count_each-elements : goal.decreases-count_each-elements
decreases-count_each-elements l = length (set_elements (template_of l.fn.p)) - l.i
