use Rattle.grade_top.proofs.OneOutcome.{one_run as law}
use Rattle.grade_top.proofs.laws.one_run.Goals as goal

pub returns : goal.returns
returns c = record { holds = law }
