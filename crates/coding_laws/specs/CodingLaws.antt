-- Laws of the codings of tasks.
use Rattle.std.specs.Prelude.{◌≡◌, ◌⊎◌, ℕ, Bool, List, Some}
use Rattle.mpy_tree.specs.Shapes.{program_shape}
use Rattle.mpy_tree.specs.Syntax.{Routine}
use Rattle.choice_tree.specs.declared.selection.Choice.{Choice}
use Rattle.choice_tree.specs.Choices.{member_of}
use Rattle.choice_tree.specs.Selections.{Fits, plain}
use Rattle.coding_laws.specs.Alphabets.{HasPrintable}
use Rattle.input_space.specs.declared.case.Case.{Case}
use Rattle.input_space.specs.SelectionBits.{selection_at}
use Rattle.input_space.specs.Statements.{IsFull}
use Rattle.input_space.specs.TaskCoding.{coding}
use Rattle.input_space.specs.Tasks.{Task, tree_of}
use Rattle.input_space.specs.TaskSpace.{SelectionMeets, space}

-- each wanted input has truth values, and each selection that fits those of one that makes the same
-- program at the same cost
abbrev pub CodingsAreFull : Type 0
CodingsAreFull =
    (k : Task) (budget : ℕ) → HasPrintable k.bounds → IsFull (space k budget) (coding k)

-- a selection that truth values spell fits the task's tree
abbrev pub TruthsSpellWhatFits : Type 0
TruthsSpellWhatFits =
    (k : Task) (bits : List Bool) (s : List Choice) → selection_at (tree_of k) bits 0 ≡ Some s
    → Fits (tree_of k) s

-- the program of a selection gives what is wanted on an input, or it doesn't
abbrev pub AgreementIsDecided : Type 0
AgreementIsDecided =
    (k : Task) (s : List Choice) (x : Case) (p : List Routine)
    → program_shape p ≡ plain (member_of s) (tree_of k)
    → SelectionMeets k s x ⊎ (SelectionMeets k s x → ⊥)
