use Rattle.bounds_reader.proofs.Judged.{one_refusal}
use Rattle.bounds_reader.proofs.laws.one_refusal.Goals as goal

pub returns : goal.returns
returns c = record { holds = one_refusal }
