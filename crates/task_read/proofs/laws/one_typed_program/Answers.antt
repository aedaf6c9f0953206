use Rattle.task_read.proofs.OneAnswer.{one_typed_program as law}
use Rattle.task_read.proofs.laws.one_typed_program.Goals as goal

pub returns : goal.returns
returns c = record { holds = law }
