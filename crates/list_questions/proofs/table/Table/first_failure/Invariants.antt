use Rattle.std.specs.Prelude.{◌≡◌, ◌<◌, ℕ, List, Some, slice_get}
use Rattle.mpy_tree.specs.declared.value.Value.{Value}
use Rattle.mpy_tree.specs.View.{routines_of}
use Rattle.input_space.specs.Inputs.{inputs}
use Rattle.input_space.specs.TaskParts.{task_with}
use Rattle.input_space.specs.TaskSpace.{Meets, case_of}
use Rattle.list_questions.proofs.table.Table.first_failure.Given as goal

-- the program gives the values of the reference on the inputs so far
abbrev pub invariant-loop-place : goal.invariant-loop-place
invariant-loop-place l =
    (i : ℕ) (vs : List Value) → i < l.place → slice_get (inputs l.self.runs.task.now.bounds.params) i ≡ Some vs → Meets (task_with l.self.runs.task.now) (routines_of l.program) (case_of vs)
