-- Topics of questions: the tasks.
use Rattle.std.specs.Prelude.{ℕ, List, []}
use Rattle.choice_tree.specs.declared.selection.Choice.{Choice}
use Rattle.cegis_loop.specs.Space.{Space}
use Rattle.input_space.specs.declared.case.Case.{Case}
use Rattle.input_space.specs.Tasks.{Task}
use Rattle.input_space.specs.TaskSpace.{space}

-- no task, or one with a budget
pub data Topic : Type 0 where
  NoTask : Topic
  OfTask : (task : Task) (budget : ℕ) → Topic

-- of no task there is no input, and each choice costs nothing
abbrev pub space_of : Topic → Space (List Choice) Case
space_of NoTask = record {
  is_choice = λ s. Unit {0};
  cost = λ s. 0;
  most_cost = 0;
  inputs = [];
  agrees = λ s x. Unit {0};
  budget = 0;
}
space_of (OfTask k budget) = space k budget
