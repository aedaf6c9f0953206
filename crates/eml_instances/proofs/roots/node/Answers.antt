use Rattle.choice_tree.specs.Heads.{head_kind}
use Rattle.choice_tree.specs.RuleViews.{template_of}
use Rattle.eml_instances.proofs.Resolutions.{exact_gives}
use Rattle.eml_instances.proofs.roots.node.Goals as goal

pub returns : goal.returns
returns c =
    λ L β r. (
      exact_gives (template_of c.args.p.now) (head_kind c.args.head) L β r c.requires.kind,
      c.requires.parts,
    )
