use Rattle.mpy_parser.proofs.OneAnswer.{only_limits}
use Rattle.mpy_parser.proofs.Steps.{laws}
use Rattle.mpy_parser.proofs.program_laws.refused_for_a_limit.Goals as goal

pub returns : goal.returns
returns c = record { holds = only_limits laws }
