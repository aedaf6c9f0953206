use Rattle.std.proofs.Common.{subst}
use Rattle.bit_graph.specs.Gates.{positive_bit}
use Rattle.bit_graph.specs.Rules.{LacksXor, NeedsXor}
use Rattle.bit_graph.proofs.ConjunctionLaws.{if_none}
use Rattle.bit_graph.proofs.graph.Graph.find_differ.Goals as goal

pub returns-in_err-bit-clause-missing : goal.returns-in_err-bit-clause-missing
returns-in_err-bit-clause-missing c =
    if_none c.from_residual.result (NeedsXor c.args.self.now c.args.a c.args.b)
    (c.in_default.ensures.missing, subst (LacksXor c.args.self.now (positive_bit c.args.a)) c.not-2.ensures.exact c.in_err-bit.ensures.missing)
