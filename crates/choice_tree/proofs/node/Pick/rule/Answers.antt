use Rattle.std.proofs.Common.{ap, option_map}
use Rattle.choice_tree.specs.WeightedViews.{Member}
use Rattle.choice_tree.proofs.Places.{seen_at}
use Rattle.choice_tree.proofs.node.Pick.rule.Goals as goal

pub returns : goal.returns
returns c =
    ap (option_map (λ (m : Member). m.rule))
    (seen_at c.args.self.others.now c.args.i c.index-self-i.result c.requires)
