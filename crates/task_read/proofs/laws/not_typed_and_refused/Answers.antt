use Rattle.task_read.proofs.OneAnswer.{not_typed_and_refused as law}
use Rattle.task_read.proofs.laws.not_typed_and_refused.Goals as goal

pub returns : goal.returns
returns c = record { holds = law }
