use Rattle.std.proofs.Common.{sym}
use Rattle.bit_graph.proofs.Same.{found_at, not_there}
use Rattle.bit_graph.proofs.share.number_of.Goals as goal

pub returns-in-None-clause-missing : goal.returns-in-None-clause-missing
returns-in-None-clause-missing c k e = not_there c.args.gates.now.keys k c.args.gate (sym c.in-None.ensures.found) e

pub returns-in-Some-clause-found : goal.returns-in-Some-clause-found
returns-in-Some-clause-found c = found_at c.args.gates.now.keys _ c.args.gate (sym c.in-Some.ensures.index)
