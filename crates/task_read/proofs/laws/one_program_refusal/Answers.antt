use Rattle.task_read.proofs.OneAnswer.{one_refusal as law}
use Rattle.task_read.proofs.laws.one_program_refusal.Goals as goal

pub returns : goal.returns
returns c = record { holds = law }
