use Rattle.std.proofs.Common.{◌≡◌}
use Rattle.sym_nodes.specs.Operands.{values_of}
use Rattle.sym_expr.proofs.calls.values_of.Given as goal

abbrev pub invariant-loop-part : goal.invariant-loop-part
invariant-loop-part g l = l.values ≡ values_of l.yielded
