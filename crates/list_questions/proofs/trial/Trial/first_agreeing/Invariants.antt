use Rattle.input_space.specs.TaskParts.{task_with}
use Rattle.list_questions.specs.Asking.{AllFail}
use Rattle.list_questions.proofs.trial.Trial.first_agreeing.Given as goal

-- each selection so far fails on a kept case
abbrev pub invariant-loop-place : goal.invariant-loop-place
invariant-loop-place l = AllFail (task_with l.self.runs.task.now) l.self.kept.now l.level l.from l.place
