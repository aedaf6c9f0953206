use Rattle.task_read.proofs.Judged.{task_judged}
use Rattle.task_read.proofs.laws.task_or_refused.Goals as goal

pub returns : goal.returns
returns c = record { holds = task_judged }
