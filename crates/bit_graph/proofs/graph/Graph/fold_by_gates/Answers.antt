use Rattle.bit_graph.proofs.ConjunctionLaws.{owned_if}
use Rattle.bit_graph.proofs.graph.Graph.fold_by_gates.Goals as goal

pub returns-clause-owned : goal.returns-clause-owned
returns-clause-owned c = owned_if c.args.self.now c.args.a c.args.b c.fold_by_both.result c.fold_by_both.ensures.below c.requires.left c.requires.right
