-- The inputs of a task, and how its reference ends on each.
use Rattle.std.specs.Prelude.{◌≡◌, ◌≤◌, length}
use Rattle.input_space.specs.TaskParts.{task_with}
use Rattle.list_questions.specs.declared.table.Table.{Table}
use Rattle.list_questions.specs.Asking.{all_ends}

-- the table has how the reference ends on all inputs, and these are few
pub record IsTable (t : Table) : Type 0 where
  pub ends_are : t.ends.now ≡ all_ends (task_with t.runs.task.now)
  pub few : length t.ends.now ≤ 1000000
