use Rattle.grade_top.proofs.OneOutcome.{not_refused_and_decided as law}
use Rattle.grade_top.proofs.laws.not_refused_and_decided.Goals as goal

pub returns : goal.returns
returns c = record { holds = law }
