-- Selections tried on the cases that are kept.
use Rattle.std.specs.Prelude.{◌≡◌, ◌≤◌, ℕ, List, All, length, Some, slice_get}
use Rattle.choice_tree.specs.declared.selection.Choice.{Choice}
use Rattle.choice_tree.specs.Selections.{most_cost}
use Rattle.choice_tree.specs.StatementViews.{weighted_prog}
use Rattle.input_space.specs.declared.case.Case.{Case}
use Rattle.input_space.specs.TaskParts.{task_with}
use Rattle.input_space.specs.Tasks.{Task, tree_of}
use Rattle.input_space.specs.TaskSpace.{SelectionMeets}
use Rattle.list_questions.specs.declared.trial.Trial.{Trial}
use Rattle.list_questions.specs.Asking.{AllFail, wanted_on}

-- the levels are those of the tree up to its greatest cost, and the ends those of the reference
pub record IsTrial (t : Trial) : Type 0 where
  pub tree_is : weighted_prog t.levels.now ≡ tree_of (task_with t.runs.task.now)
  pub last_is : t.last ≡ most_cost (tree_of (task_with t.runs.task.now))
  pub ends_are : wanted_on (task_with t.runs.task.now) t.kept.now ≡ t.ends.now

-- a walk over selections from a place on, up to one that agrees on the cases, or to their end
pub record StopsAt (k : Task) (xs : List Case) (ss : List (List Choice)) (from place : ℕ)
    : Type 0 where
  pub on : from ≤ place
  pub within : place ≤ length ss
  pub passed : AllFail k xs ss from place
  pub agrees : (s : List Choice) → slice_get ss place ≡ Some s → All (SelectionMeets k s) xs
