use Rattle.std.proofs.Common.{ap, ◌∙◌, sym}
use Rattle.choice_tree.specs.RuleViews.{template_of}
use Rattle.eml_instances.specs.Resolving.{stopped}
use Rattle.eml_instances.specs.Substitutions.{bindings_in, locals_in}
use Rattle.eml_instances.proofs.Counts.{counted_at_root}
use Rattle.eml_instances.proofs.standings.Substitution.count.Goals as goal

pub returns : goal.returns
returns c =
    c.root_count.ensures
    ∙ ap stopped (sym (counted_at_root (template_of c.args.p.now) (locals_in c.args.self.now)
    (bindings_in c.args.self.now)))
