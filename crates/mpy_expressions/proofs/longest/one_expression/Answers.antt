use Rattle.mpy_expressions.specs.Programs.{programs}
use Rattle.mpy_expressions.proofs.Complete.{one_expression}
use Rattle.mpy_expressions.proofs.longest.one_expression.Goals as goal

pub returns : goal.returns
returns c = record { holds = one_expression programs }
