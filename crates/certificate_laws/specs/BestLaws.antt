-- From the choices of a search to the rewritings of a submission.
use Rattle.std.specs.Prelude.{◌≡◌, ℕ, List, []}
use Rattle.mpy_tree.specs.Shapes.{program_shape}
use Rattle.mpy_tree.specs.Syntax.{Routine}
use Rattle.choice_tree.specs.declared.selection.Choice.{Choice}
use Rattle.choice_tree.specs.declared.tree.WProg.{WProg}
use Rattle.choice_tree.specs.Choices.{member_of}
use Rattle.choice_tree.specs.Selections.{Fits, edits, plain}
use Rattle.choice_tree.specs.StatementViews.{weighted_prog}
use Rattle.cegis_loop.specs.Answers.{IsLeast}
use Rattle.cegis_loop.specs.Answers as loop
use Rattle.input_space.specs.Tasks.{IsBestOf, IsSound, NoneAgrees, Task, tree_of}
use Rattle.input_space.specs.TaskSpace.{space, wanted_inputs}

-- the selection makes this program of the submission
abbrev pub Makes : Task → List Choice → List Routine → Type 0
Makes k s p = program_shape p ≡ plain (member_of s) (tree_of k)

-- The selection fits the task's tree; the program that it makes is a best rewriting at this cost,
-- by the selection's edits; and it makes one, where the tree is that of a weighted program.
pub record MakesBest (k : Task) (s : List Choice) (cost : ℕ) : Type 0 where
  pub fits : Fits (tree_of k) s
  pub best : (p : List Routine) → Makes k s p
      → IsBestOf k p cost (edits (member_of s) (tree_of k) 0)
  pub made : (w : WProg) → weighted_prog w ≡ tree_of k → (p : List Routine) × Makes k s p

-- one of least cost that agrees on all inputs makes a best rewriting
abbrev pub LeastChoiceIsBest : Type 0
LeastChoiceIsBest =
    (k : Task) (budget : ℕ) (s : List Choice) (n : ℕ) → IsSound k
    → IsLeast (space k budget) (wanted_inputs k) s n → MakesBest k s n

-- where no selection agrees on all inputs, no rewriting agrees
abbrev pub NoChoiceNoRewriting : Type 0
NoChoiceNoRewriting =
    (k : Task) (budget : ℕ) → IsSound k → loop.NoneAgrees (space k budget) (wanted_inputs k)
    → NoneAgrees k

-- where one that costs nothing agrees on all inputs, the submission is best
abbrev pub FreeChoiceIsSubmission : Type 0
FreeChoiceIsSubmission =
    (k : Task) (budget : ℕ) (s : List Choice) → IsSound k
    → IsLeast (space k budget) (wanted_inputs k) s 0 → IsBestOf k k.submission 0 []
