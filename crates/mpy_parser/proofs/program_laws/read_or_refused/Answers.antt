use Rattle.mpy_parser.proofs.Judged.{judged}
use Rattle.mpy_parser.proofs.program_laws.read_or_refused.Goals as goal

pub returns : goal.returns
returns c = record { holds = judged }
