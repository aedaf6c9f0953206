use Rattle.sym_stmt.proofs.Rewritten.{rewritten_typed}
use Rattle.sym_stmt.proofs.laws.rewritten_programs_are_typed.Goals as goal

pub returns : goal.returns
returns c = rewritten_typed
