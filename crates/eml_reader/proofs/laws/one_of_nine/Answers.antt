use Rattle.eml_reader.proofs.Causes.{one_of_nine}
use Rattle.eml_reader.proofs.laws.one_of_nine.Goals as goal

pub returns : goal.returns
returns c = record { holds = one_of_nine }
