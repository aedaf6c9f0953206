use Rattle.sym_nodes.proofs.Typed.{one_typed}
use Rattle.sym_nodes.proofs.builtins.length_operation.Goals as goal

pub length_value-requires-clause-owned : goal.length_value-requires-clause-owned
length_value-requires-clause-owned g c = (one_typed c.args.limits.now c.args.parts.now c.one_value-a.result.now c.requires.parts c.one_value-a.ensures).owned
