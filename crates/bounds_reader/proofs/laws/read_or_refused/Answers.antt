use Rattle.bounds_reader.proofs.Judged.{read_or_refused}
use Rattle.bounds_reader.proofs.laws.read_or_refused.Goals as goal

pub returns : goal.returns
returns c = record { holds = read_or_refused }
