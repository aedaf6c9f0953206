use Rattle.eml_reader.proofs.Judged.{one_refusal}
use Rattle.eml_reader.proofs.laws.one_refusal.Goals as goal

pub returns : goal.returns
returns c = record { holds = one_refusal }
