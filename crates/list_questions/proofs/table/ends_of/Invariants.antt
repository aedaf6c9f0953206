use Rattle.std.specs.Prelude.{◌≡◌, map, take}
use Rattle.input_space.specs.Inputs.{inputs}
use Rattle.input_space.specs.TaskParts.{task_with}
use Rattle.input_space.specs.TaskSpace.{wanted}
use Rattle.list_questions.proofs.table.ends_of.Given as goal

-- the ends on the inputs so far
abbrev pub invariant-loop-place : goal.invariant-loop-place
invariant-loop-place l = l.ends.items ≡ map (wanted (task_with l.runs.task.now)) (take l.place (inputs l.runs.task.now.bounds.params))
