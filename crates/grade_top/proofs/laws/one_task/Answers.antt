use Rattle.grade_top.proofs.OneOutcome.{one_task as law}
use Rattle.grade_top.proofs.laws.one_task.Goals as goal

pub returns : goal.returns
returns c = record { holds = law }
