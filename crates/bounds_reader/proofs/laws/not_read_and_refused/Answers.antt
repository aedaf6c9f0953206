use Rattle.bounds_reader.proofs.Judged.{not_read_and_refused}
use Rattle.bounds_reader.proofs.laws.not_read_and_refused.Goals as goal

pub returns : goal.returns
returns c = record { holds = not_read_and_refused }
