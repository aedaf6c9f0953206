-- What the code answers for the texts of `grade`.
use Rattle.std.specs.Prelude.{◌≡◌, ℕ, List, option_map}
use Rattle.grade_io.specs.declared.status.Status.{Status}
use Rattle.input_space.specs.TaskParts.{task_with}
use Rattle.input_space.specs.Tasks.{Task}
use Rattle.feedback_text.specs.declared.answer.Answer as code_answer
use Rattle.feedback_text.specs.Answers.{Answer, IsAnswer}
use Rattle.feedback_text.specs.AnswerViews.{IsReported, StandsFor}
use Rattle.grade_core.specs.declared.grading.Graded.{Graded}
use Rattle.grade_core.specs.Commands.{IsKeptOf, answer_text, status_of}
use Rattle.grade_core.specs.Decisions.{task_step}

-- what a text is written of: there was memory for an answer, and what it reports can be made
abbrev pub IsTold : Task → code_answer.Answer → Type 0
IsTold k code_answer.TheVariants.Correct = IsReported k code_answer.TheVariants.Correct
IsTold k (code_answer.TheVariants.Corrected s n fails) =
    IsReported k (code_answer.TheVariants.Corrected s n fails)
IsTold k (code_answer.TheVariants.NoCorrection fails) =
    IsReported k (code_answer.TheVariants.NoCorrection fails)
IsTold k code_answer.TheVariants.EmptyReference = Unit {0}
IsTold k (code_answer.TheVariants.Spent at_least budget) =
    IsReported k (code_answer.TheVariants.Spent at_least budget)
IsTold k code_answer.TheVariants.NoMemory = ⊥

-- what is written of the answer for which the code's stands, by the word that names the reference
pub record IsTextOf (word : List ℕ) (k : Task) (d : code_answer.Answer) (text : List ℕ)
    : Type 0 where
  pub answer : Answer
  pub stands : StandsFor k d answer
  pub text_is : text ≡ answer_text word k answer

-- the texts spell this task, this answer stands for its answer under the budget, and what is kept
-- shows each answer for which it stands
pub record IsGradedSo (budget : ℕ) (ts : List (List ℕ)) (d : Graded) : Type 0 where
  pub task : (task_step ts).gives (task_with d.task)
  pub told : IsTold (task_with d.task) d.answer
  pub answered : (a : Answer) → StandsFor (task_with d.task) d.answer a
      → IsAnswer (task_with d.task) a
  pub kept : (a : Answer) → StandsFor (task_with d.task) d.answer a
      → IsKeptOf (task_with d.task) budget a (option_map (λ v. v.items) d.cert)

-- the status is that of each answer for which the code's stands
abbrev pub HasStatus : code_answer.Answer → Status → Type 0
HasStatus d s = (k : Task) (a : Answer) → StandsFor k d a → s ≡ status_of a
