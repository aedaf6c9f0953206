-- The code's answers as the definitions see them: a selection stands for its program and edits.
use Rattle.std.specs.Prelude.{◌≡◌, List, map}
use Rattle.mpy_tree.specs.Shapes.{program_shape}
use Rattle.mpy_tree.specs.Syntax.{Routine}
use Rattle.choice_tree.specs.declared.selection.Choice.{Choice}
use Rattle.choice_tree.specs.Choices.{member_of}
use Rattle.choice_tree.specs.Selections.{Fits, edits, plain}
use Rattle.choice_tree.specs.WeightedTrees.{Weighted}
use Rattle.input_space.specs.Agreement.{Failure}
use Rattle.input_space.specs.Tasks.{Task, tree_of}
use Rattle.feedback_text.specs.Answers.{Answer, Correct, Corrected, NoCorrection, EmptyReference}
use Rattle.feedback_text.specs.Answers.{Spent, Edit, edit_tree}
use Rattle.feedback_text.specs.declared.answer.Answer as code
use Rattle.feedback_text.specs.declared.answer.Failure as code_failure

abbrev pub failure_of : code_failure.Failure → Failure
failure_of f = record {
  input = f.case.values;
  gives = f.gives;
  wanted = f.wanted;
}

-- the program and the edits of a selection
pub record Makes (w : Weighted) (s : List Choice) (p : List Routine) (es : List Edit) : Type 0 where
  pub program : program_shape p ≡ plain (member_of s) w
  pub edits_are : map edit_tree es ≡ edits (member_of s) w 0

-- the code's answer stands for this one; want of memory stands for none
abbrev pub StandsFor : Task → code.Answer → Answer → Type 0
StandsFor k code.TheVariants.Correct a = a ≡ Correct
StandsFor k (code.TheVariants.Corrected s n fails) (Corrected m failure es p) =
    (n ≡ m) × (failure_of fails ≡ failure) × Makes (tree_of k) s p es
StandsFor k (code.TheVariants.Corrected s n fails) Correct = ⊥
StandsFor k (code.TheVariants.Corrected s n fails) (NoCorrection failure) = ⊥
StandsFor k (code.TheVariants.Corrected s n fails) EmptyReference = ⊥
StandsFor k (code.TheVariants.Corrected s n fails) (Spent at_least budget) = ⊥
StandsFor k (code.TheVariants.NoCorrection fails) a = a ≡ NoCorrection (failure_of fails)
StandsFor k code.TheVariants.EmptyReference a = a ≡ EmptyReference
StandsFor k (code.TheVariants.Spent at_least budget) a = a ≡ Spent at_least budget
StandsFor k code.TheVariants.NoMemory a = ⊥

-- What a report is written of: a selection fits the tree. Of a reference that faults on all inputs
-- there is none.
abbrev pub IsReported : Task → code.Answer → Type 0
IsReported k code.TheVariants.Correct = Unit {0}
IsReported k (code.TheVariants.Corrected s n fails) = Fits (tree_of k) s
IsReported k (code.TheVariants.NoCorrection fails) = Unit {0}
IsReported k code.TheVariants.EmptyReference = ⊥
IsReported k (code.TheVariants.Spent at_least budget) = Unit {0}
IsReported k code.TheVariants.NoMemory = ⊥
