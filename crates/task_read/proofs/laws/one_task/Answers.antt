use Rattle.task_read.proofs.OneStep.{one_task_step}
use Rattle.task_read.proofs.laws.one_task.Goals as goal

pub returns : goal.returns
returns c = record { holds = λ a b s e k other x y. (one_task_step a b s e).gives k other x y }
