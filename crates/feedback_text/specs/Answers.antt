-- What the grader answers for a task.
use Rattle.std.specs.Prelude.{ℕ, ◌<◌, ◌≤◌, List, [], map}
use Rattle.mpy_tree.specs.Shapes.{shape}
use Rattle.mpy_tree.specs.Syntax.{Routine, Term}
use Rattle.choice_tree.specs.Rewriting as tree
use Rattle.input_space.specs.Agreement.{Agrees, Failure}
use Rattle.input_space.specs.Tasks.{Task, HasWanted, IsBestOf, IsFailureOf, NoneAgrees}
use Rattle.input_space.specs.Tasks.{Rewrites}

-- a replacement on a line by a rule, counted from 0
pub record Edit : Type 0 where
  pub line : ℕ
  pub rule : ℕ
  pub old : Term
  pub new : Term

abbrev pub edit_tree : Edit → tree.Edit
edit_tree e = record { line = e.line; rule = e.rule; old = shape e.old; new = shape e.new }

pub data Answer : Type 0 where
  Correct : Answer
  Corrected : (cost : ℕ) (fails : Failure) (edits : List Edit) (p : List Routine) → Answer
  NoCorrection : (fails : Failure) → Answer
  EmptyReference : Answer
  Spent : (at_least budget : ℕ) → Answer

-- no rewriting of smaller cost agrees
abbrev pub NoneBelow : Task → ℕ → Type 0
NoneBelow k n =
    (q : List Routine) (cost : ℕ) (edits : List tree.Edit)
    → Rewrites k q cost edits → Agrees k.bounds k.reference q → n ≤ cost

-- `correct` is the submission itself, at cost 0. Only of a reference that gives a value on some
-- input is anything else answered than that it gives none, or that the budget is spent.
abbrev pub IsAnswer : Task → Answer → Type 0
IsAnswer k Correct = HasWanted k × IsBestOf k k.submission 0 []
IsAnswer k (Corrected cost fails edits p) =
    IsBestOf k p cost (map edit_tree edits) × (0 < cost) × IsFailureOf k fails
IsAnswer k (NoCorrection fails) = NoneAgrees k × IsFailureOf k fails
IsAnswer k EmptyReference = HasWanted k → ⊥
IsAnswer k (Spent at_least budget) = NoneBelow k at_least
