use Rattle.std.proofs.Common.{◌∙◌}
use Rattle.bit_graph.specs.Gates.{reading}
use Rattle.bit_graph.proofs.ConjunctionLaws.{and_turned}
use Rattle.bit_graph.proofs.graph.Graph.simplify.Goals as goal

pub returns-in-Some-clause-owned : goal.returns-in-Some-clause-owned
returns-in-Some-clause-owned c = record { below = c.in-Some.ensures.below _ _ c.requires.left.below c.requires.right.below }

pub returns-in-Some-fold_by_first-2-clause-value : goal.returns-in-Some-fold_by_first-2-clause-value
returns-in-Some-fold_by_first-2-clause-value c vs = c.in-Some-fold_by_first-2.ensures.value vs ∙ and_turned (reading c.args.self.now vs c.args.b) (reading c.args.self.now vs c.args.a)
