use Rattle.task_read.proofs.ProperRules.{spelled_rules_proper}
use Rattle.task_read.proofs.laws.rules_are_proper.Goals as goal

pub returns : goal.returns
returns c = record { holds = λ bytes rules h. spelled_rules_proper bytes rules h.file }
