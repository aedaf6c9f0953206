use Rattle.task_read.proofs.Judged.{judged}
use Rattle.task_read.proofs.laws.typed_or_refused.Goals as goal

pub returns : goal.returns
returns c = record { holds = judged }
