-- What is decided for the texts of `grade`: the first refusal, or the task that is graded.
use Rattle.std.specs.Prelude.{ℕ, List, [], ◌∷◌}
use Rattle.mpy_tree.specs.declared.refusal.Source.{Source}
use Rattle.mpy_tree.specs.declared.refusal.Source.TheVariants as source
use Rattle.input_space.specs.Tasks.{Task}
use Rattle.task_read.specs.Steps.{Step}
use Rattle.task_read.specs.TaskSteps as task

-- what the four texts of a task are, in order
abbrev pub task_sources : List Source
task_sources = source.Bounds ∷ source.Reference ∷ source.Submission ∷ source.Rules ∷ []

-- texts that aren't those of the command's files
abbrev pub never : {A : Type 0} → Step A
never = record { gives = λ a. ⊥; refuses = λ r. ⊥ }

-- the task that the texts spell
abbrev pub task_step : List (List ℕ) → Step Task
task_step (bounds ∷ reference ∷ submission ∷ rules ∷ []) =
    task.task_step bounds reference submission rules
task_step _ = never
