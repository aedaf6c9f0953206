use Rattle.std.specs.Prelude.{◌<◌, ℕ}
use Rattle.input_space.specs.TaskParts.{task_with}
use Rattle.list_questions.specs.Asking.{NoneExpected}
use Rattle.list_questions.proofs.table.Table.first_expected.Given as goal

-- the reference gives no value on the inputs so far
abbrev pub invariant-loop-place : goal.invariant-loop-place
invariant-loop-place l = (i : ℕ) → i < l.place → NoneExpected (task_with l.self.runs.task.now) i
