-- What is asked about, and what holds while it is asked.
use Rattle.std.specs.Prelude.{◌≡◌, ◌<◌, ◌≤◌, ℕ, List, All, length, map, Option, Some, None}
use Rattle.std.specs.Prelude.{slice_get, true, false}
use Rattle.std.specs.List.{Contains}
use Rattle.std.specs.List.Sorted.{IsPermutation}
use Rattle.mpy_tree.specs.declared.outcome.Outcome.{Outcome}
use Rattle.mpy_tree.specs.declared.value.Value.{Value}
use Rattle.mpy_tree.specs.Outcomes.{is_done}
use Rattle.mpy_tree.specs.Syntax.{Routine}
use Rattle.choice_tree.specs.declared.selection.Choice.{Choice}
use Rattle.choice_tree.specs.declared.tree.WProg.{WProg}
use Rattle.choice_tree.specs.Selections.{most_cost}
use Rattle.choice_tree.specs.StatementViews.{weighted_prog}
use Rattle.cost_levels.specs.Levels.{level}
use Rattle.input_space.specs.declared.case.Case.{Case}
use Rattle.input_space.specs.Inputs.{inputs}
use Rattle.input_space.specs.declared.task.TaskParts.{TaskParts}
use Rattle.input_space.specs.TaskParts.{task_with}
use Rattle.input_space.specs.Tasks.{Task, tree_of}
use Rattle.input_space.specs.TaskSpace.{Meets, SelectionMeets, wanted, wanted_inputs}
use Rattle.list_questions.specs.declared.table.Expected.{Expected}
use Rattle.list_questions.specs.declared.table.Row.{Row}
use Rattle.list_questions.specs.declared.trial.Reached.{Reached}

-- the parts of a task, and the cases that are kept, in order
pub record Asking : Type 0 where
  pub parts : TaskParts
  pub kept : List Case

abbrev pub task_of : Asking → Task
task_of a = task_with a.parts

-- how the reference ends on cases
abbrev pub wanted_on : Task → List Case → List Outcome
wanted_on k xs = map (λ x. wanted k x.values) xs

-- and on all inputs
abbrev pub all_ends : Task → List Outcome
all_ends k = map (wanted k) (inputs k.bounds.params)

-- a selection fails on some of the cases
abbrev pub Fails : Task → List Case → List Choice → Type 0
Fails k xs s = All (SelectionMeets k s) xs → ⊥

-- and so do those of a list from a place to another
abbrev pub AllFail : Task → List Case → List (List Choice) → ℕ → ℕ → Type 0
AllFail k xs ss from to =
    (i : ℕ) (s : List Choice) → from ≤ i → i < to → slice_get ss i ≡ Some s → Fails k xs s

-- Those of the level that was reached that were passed by fail on some of the cases, and so do all
-- of lower levels.
pub record IsReached (k : Task) (xs : List Case) (r : Reached) : Type 0 where
  pub level_is : IsPermutation (level (tree_of k) r.cost) r.level.items
  pub within : r.passed ≤ length r.level.items
  pub lower : (n : ℕ) (s : List Choice) → n < r.cost → Contains (level (tree_of k) n) s
      → Fails k xs s
  pub passed_by : AllFail k xs r.level.items 0 r.passed

-- what the parts of a value that answers questions say
pub record IsAsking (k : Task) (tree : WProg) (last : ℕ) (reached : Reached)
    (table : List Outcome) (kept : List Case) (ends : List Outcome) : Type 0 where
  pub tree_is : weighted_prog tree ≡ tree_of k
  pub last_is : last ≡ most_cost (tree_of k)
  pub reached_so : IsReached k kept reached
  pub table_is : table ≡ all_ends k
  pub few : length table ≤ 1000000
  pub ends_are : wanted_on k kept ≡ ends

-- a cost above the bound, if there is one
abbrev pub IsBeyond : Option ℕ → ℕ → Type 0
IsBeyond None cost = ⊥
IsBeyond (Some most) cost = most < cost

-- an input on which the reference gives a value, and how it ends there
pub record IsExpected (k : Task) (e : Expected) : Type 0 where
  pub input : Contains (wanted_inputs k) e.case
  pub end_is : wanted k e.case.values ≡ e.end

-- one on which a program doesn't give that value
pub record IsFailing (k : Task) (p : List Routine) (e : Expected) : Type 0 where
  pub expected : IsExpected k e
  pub fails : Meets k p e.case → ⊥

-- a row of the table as a case with the end
abbrev pub expected_in : Row → Expected
expected_in r = record { case = r.case; end = r.end.now }

-- the reference gives no value on the input at a place
abbrev pub NoneExpected : Task → ℕ → Type 0
NoneExpected k place =
    (vs : List Value) → slice_get (inputs k.bounds.params) place ≡ Some vs
    → is_done (wanted k vs) ≡ false

-- it gives one, and ends so
pub record ExpectedAt (k : Task) (place : ℕ) (e : Expected) : Type 0 where
  pub at : slice_get (inputs k.bounds.params) place ≡ Some e.case.values
  pub end_is : wanted k e.case.values ≡ e.end
  pub done : is_done e.end ≡ true
