use Rattle.std.specs.Prelude.{◌≡◌, ◌<◌, ℕ, Some, slice_get}
use Rattle.mpy_tree.specs.View.{routines_of}
use Rattle.input_space.specs.declared.case.Case.{Case}
use Rattle.input_space.specs.TaskParts.{task_with}
use Rattle.input_space.specs.TaskSpace.{Meets}
use Rattle.list_questions.proofs.trial.Trial.agrees.Given as goal

-- the program gives the values of the reference on the cases so far
abbrev pub invariant-loop-i : goal.invariant-loop-i
invariant-loop-i l = (i : ℕ) (x : Case) → i < l.i → slice_get l.self.kept.now i ≡ Some x → Meets (task_with l.self.runs.task.now) (routines_of l.program) x
