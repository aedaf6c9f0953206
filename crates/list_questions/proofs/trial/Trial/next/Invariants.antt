use Rattle.std.proofs.Common.{◌-◌}
use Rattle.input_space.specs.TaskParts.{task_with}
use Rattle.list_questions.specs.Asking.{IsReached}
use Rattle.list_questions.proofs.trial.Trial.next.Given as goal

-- what was passed by fails on a kept case
abbrev pub invariant-levels : goal.invariant-levels
invariant-levels l = IsReached (task_with l.self.runs.task.now) l.self.kept.now l.reached

abbrev pub decreases-levels : goal.decreases-levels
decreases-levels l = l.self.last - l.reached.cost
