use Rattle.grade_top.proofs.OneOutcome.{one_refusal as law}
use Rattle.grade_top.proofs.laws.one_refusal.Goals as goal

pub returns : goal.returns
returns c = record { holds = law }
