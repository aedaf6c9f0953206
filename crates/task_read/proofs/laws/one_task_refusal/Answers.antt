use Rattle.task_read.proofs.OneStep.{one_task_step}
use Rattle.task_read.proofs.laws.one_task_refusal.Goals as goal

pub returns : goal.returns
returns c = record { holds = λ a b s e q r x y. (one_task_step a b s e).refuses q r x y }
