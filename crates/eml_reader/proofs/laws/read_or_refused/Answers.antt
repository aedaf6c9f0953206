use Rattle.eml_reader.proofs.Judged.{judged}
use Rattle.eml_reader.proofs.laws.read_or_refused.Goals as goal

pub returns : goal.returns
returns c = record { holds = judged }
