use Rattle.bounds_reader.proofs.Judged.{one_bounds}
use Rattle.bounds_reader.proofs.laws.one_bounds.Goals as goal

pub returns : goal.returns
returns c = record { holds = one_bounds }
