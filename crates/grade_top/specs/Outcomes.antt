-- What is written of a sample, as the code answers it.
use Rattle.std.specs.Prelude.{◌≡◌, ℕ, List, Option, length}
use Rattle.mpy_tree.specs.Syntax.{Routine}
use Rattle.choice_tree.specs.declared.selection.Choice.{Choice}
use Rattle.input_space.specs.Tasks.{Task, tree_of}
use Rattle.feedback_text.specs.declared.answer.Answer as code_answer
use Rattle.feedback_text.specs.Answers.{Answer, Edit}
use Rattle.feedback_text.specs.AnswerViews.{Makes, StandsFor}
use Rattle.grade_top.specs.Reports.{sample_lines, sample_report}

-- the lines of a sample that a selection corrects, by the edits that it makes
pub record Summarizes (n : ℕ) (k : Task) (s : List Choice) (cost : ℕ) (text : List ℕ) : Type 0 where
  pub edits : List Edit
  pub program : List Routine
  pub makes : Makes (tree_of k) s program edits
  pub text_is : text ≡ sample_lines n k (length edits) cost

-- the code's answer is that the budget is spent
abbrev pub IsSpent : code_answer.Answer → Type 0
IsSpent d = (at_least : ℕ) × (budget : ℕ) × (d ≡ code_answer.TheVariants.Spent at_least budget)

-- what is written of a sample, by an answer for which the code's stands, and what is kept of it
pub record IsSampleOf (n : ℕ) (k : Task) (d : code_answer.Answer) (cert : Option (List ℕ))
    (text : List ℕ) : Type 0 where
  pub answer : Answer
  pub stands : StandsFor k d answer
  pub text_is : text ≡ sample_report n k answer cert
