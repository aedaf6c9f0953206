use Rattle.eml_reader.proofs.Judged.{one_reading}
use Rattle.eml_reader.proofs.laws.one_reading.Goals as goal

pub returns : goal.returns
returns c = record { holds = one_reading }
