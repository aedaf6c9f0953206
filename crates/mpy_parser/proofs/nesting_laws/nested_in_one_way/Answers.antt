use Rattle.mpy_parser.proofs.Piled.{one_program}
use Rattle.mpy_parser.proofs.nesting_laws.nested_in_one_way.Goals as goal

pub returns : goal.returns
returns c = record { holds = one_program }
