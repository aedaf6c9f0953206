use Rattle.mpy_parser.proofs.OneAnswer.{not_refused}
use Rattle.mpy_parser.proofs.Steps.{laws}
use Rattle.mpy_parser.proofs.program_laws.not_read_and_refused.Goals as goal

pub returns : goal.returns
returns c = record { holds = not_refused laws }
