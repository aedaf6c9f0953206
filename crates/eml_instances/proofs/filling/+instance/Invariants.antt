use Rattle.std.proofs.Common.{◌≡◌, ◌+◌, ◌-◌, ◌*◌, ◌≤◌, length}
use Rattle.choice_tree.specs.Drafts.{filled_all}
use Rattle.choice_tree.specs.RuleViews.{template_of}
use Rattle.eml_match.specs.Parts.{template_parts}
use Rattle.eml_match.specs.Resolutions.{depth}
use Rattle.eml_instances.specs.Resolving.{drafts, parts_resolved}
use Rattle.eml_instances.specs.Substitutions.{bindings_in, locals_in}
use Rattle.eml_instances.proofs.Instances.{made_and_left}
use Rattle.eml_instances.proofs.filling.+instance.Given as goal

abbrev pub decreases-instance : goal.decreases-instance
decreases-instance l = 2 * depth (template_of l.p.now) + 1

abbrev pub decreases-node_instance : goal.decreases-node_instance
decreases-node_instance l = 2 * depth (template_of l.p.now)

-- the trees that were made, and those of the parts that are left
abbrev pub invariant-node_instance-places : goal.invariant-node_instance-places
invariant-node_instance-places l = record {
  trees : filled_all (drafts (parts_resolved (template_of l.fn.p) (locals_in l.fn.s)
      (bindings_in l.fn.s) l.fn.r))
      ≡ made_and_left (template_of l.fn.p) (locals_in l.fn.s) (bindings_in l.fn.s) l.fn.r
      l.made.items l.i;
  many : length l.made.items ≡ l.i;
  within : l.i ≤ length (template_parts (template_of l.fn.p));
}

abbrev pub decreases-node_instance-places : goal.decreases-node_instance-places
decreases-node_instance-places l = length (template_parts (template_of l.fn.p)) - l.i
