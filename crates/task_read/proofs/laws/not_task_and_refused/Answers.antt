use Rattle.task_read.proofs.OneStep.{one_task_step}
use Rattle.task_read.proofs.laws.not_task_and_refused.Goals as goal

pub returns : goal.returns
returns c = record { holds = λ a b s e k r x y. (one_task_step a b s e).not_both k r x y }
