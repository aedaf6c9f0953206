use Rattle.mpy_parser.proofs.OneAnswer.{one_refusal}
use Rattle.mpy_parser.proofs.Steps.{laws}
use Rattle.mpy_parser.proofs.program_laws.one_refusal.Goals as goal

pub returns : goal.returns
returns c = record { holds = one_refusal laws }
