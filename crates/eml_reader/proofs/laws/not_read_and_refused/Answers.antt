use Rattle.eml_reader.proofs.Judged.{not_both}
use Rattle.eml_reader.proofs.laws.not_read_and_refused.Goals as goal

pub returns : goal.returns
returns c = record { holds = not_both }
