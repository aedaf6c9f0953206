-- The report, as the code writes it.
use Rattle.std.specs.Prelude.{◌≡◌, ℕ, List, ◌++◌, codes, map}
use Rattle.mpy_tree.specs.Printing.{program_text}
use Rattle.mpy_tree.specs.Syntax.{Routine}
use Rattle.mpy_tree.specs.View.{term_of}
use Rattle.choice_tree.specs.declared.edit.Edit as code_edit
use Rattle.choice_tree.specs.declared.selection.Choice.{Choice}
use Rattle.choice_tree.specs.Choices.{member_of}
use Rattle.choice_tree.specs.Selections as tree
use Rattle.input_space.specs.Tasks.{Task, tree_of}
use Rattle.feedback_text.specs.declared.answer.Answer as code_answer
use Rattle.feedback_text.specs.Answers.{Answer, Edit, edit_tree}
use Rattle.feedback_text.specs.AnswerViews.{Makes, StandsFor}
use Rattle.feedback_text.specs.Reports.{edits_text, report_of}

abbrev pub edit_of : code_edit.Edit → Edit
edit_of e =
    record { line = e.line; rule = e.rule; old = term_of e.old; new = term_of e.new }

-- the lines for the edits by which a selection makes its program
pub record ShowsEdits (k : Task) (s : List Choice) (text : List ℕ) : Type 0 where
  pub edits : List Edit
  pub edits_are : map edit_tree edits ≡ tree.edits (member_of s) (tree_of k) 0
  pub text_is : text ≡ edits_text k.rules edits

-- the lines for what a selection makes: its edits and its program
pub record ShowsCorrection (k : Task) (s : List Choice) (text : List ℕ) : Type 0 where
  pub edits : List Edit
  pub program : List Routine
  pub makes : Makes (tree_of k) s program edits
  pub text_is : text ≡ edits_text k.rules edits ++ codes "program\n" ++ program_text program

-- the report of the answer for which that of the code stands
pub record IsReportOf (k : Task) (a : code_answer.Answer) (text : List ℕ) : Type 0 where
  pub answer : Answer
  pub stands : StandsFor k a answer
  pub text_is : text ≡ report_of k answer
