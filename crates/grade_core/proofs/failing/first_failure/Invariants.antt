use Rattle.std.specs.Prelude.{◌≡◌, ◌<◌, ℕ, Some, slice_get}
use Rattle.input_space.specs.declared.case.Case.{Case}
use Rattle.input_space.specs.TaskParts.{task_with}
use Rattle.input_space.specs.TaskSpace.{Meets}
use Rattle.grade_core.proofs.failing.first_failure.Given as goal

-- the submission ends as the reference does on the cases so far
abbrev pub invariant-loop-case : goal.invariant-loop-case
invariant-loop-case l =
    (i : ℕ) (x : Case) → i < l.case-index → slice_get l.case-items i ≡ Some x → Meets (task_with l.runs.task.now) (task_with l.runs.task.now).submission x
