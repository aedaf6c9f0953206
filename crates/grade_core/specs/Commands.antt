-- The command `grade`: which files it reads, what their texts decide, and what is written of it.
use Rattle.std.specs.Prelude.{◌≡◌, ℕ, List, [], ◌∷◌, map, Option, Some, None, IsSomeAnd}
use Rattle.grade_io.specs.declared.status.Status.{Status}
use Rattle.grade_io.specs.declared.status.Status.TheVariants as status
use Rattle.mpy_tree.specs.declared.refusal.Cause.TheVariants as cause
use Rattle.mpy_tree.specs.declared.refusal.Refusal.{Refusal}
use Rattle.mpy_tree.specs.declared.refusal.Source.{Source}
use Rattle.mpy_tree.specs.declared.refusal.Source.TheVariants as source
use Rattle.mpy_tree.specs.Refusals.{refusal_text}
use Rattle.input_space.specs.Sessions.{told_of}
use Rattle.input_space.specs.Tasks.{Task, entry_line, tree_of}
use Rattle.source_files.specs.Files.{SourceFile, file}
use Rattle.task_read.specs.Sources.{refusal}
use Rattle.file_commands.specs.Commands.{FileCommand}
use Rattle.cegis_loop.specs.Order.{IsAtLeast}
use Rattle.cert_text.specs.declared.cert.Cert.{Cert}
use Rattle.cert_text.specs.declared.cert.Claim.{Claim}
use Rattle.cert_text.specs.declared.cert.Claim.TheVariants as claim
use Rattle.cert_text.specs.Certificates.{IsCertOf}
use Rattle.certificate_laws.specs.Right.{IsHonestlySpent, IsRight}
use Rattle.feedback_text.specs.Answers.{Answer, Correct, Corrected, NoCorrection, EmptyReference}
use Rattle.feedback_text.specs.Answers.{Spent, IsAnswer}
use Rattle.feedback_text.specs.AnswerViews.{Makes}
use Rattle.feedback_text.specs.Reports.{report_of}
use Rattle.grade_core.specs.Decisions.{task_step}
use Rattle.grade_core.specs.Words.{GradeWords}

abbrev pub files_of : GradeWords → List SourceFile
files_of g =
    file source.Bounds g.bounds ∷ file source.Reference g.reference
    ∷ file source.Submission g.submission ∷ file source.Rules g.rules ∷ []

-- the word that names a source, if it is a file of the command
abbrev pub word_of : GradeWords → Source → List ℕ
word_of g source.Bounds = g.bounds
word_of g source.Reference = g.reference
word_of g source.Submission = g.submission
word_of g source.Rules = g.rules
word_of g source.Cert = g.cert
word_of g (source.Word n) = []

-- a task, an answer to it, and the text of a certificate of it
pub record Graded : Type 0 where
  pub task : Task
  pub answer : Answer
  pub cert : Option (List ℕ)

-- a certificate that is right for the task, under any budget, whose claim this is
pub record IsRightFor (k : Task) (claimed : Claim) (c : Cert) : Type 0 where
  pub right : (budget : ℕ) → IsRight k budget c
  pub claim_is : c.claim ≡ claimed

-- The certificate shows the answer to the task. Of a reference that gives no value there is none.
abbrev pub Shows : Task → ℕ → Answer → Cert → Type 0
Shows k budget Correct c = IsRightFor k (claim.Cost 0) c
Shows k budget (Corrected cost fails edits p) c =
    IsRightFor k (claim.Cost cost) c × Makes (tree_of k) c.selection p edits
Shows k budget (NoCorrection fails) c = IsRightFor k claim.Nothing c
Shows k budget EmptyReference c = ⊥
Shows k budget (Spent at_least of) c =
    IsHonestlySpent k budget c × IsAtLeast (map told_of c.sessions) at_least × (of ≡ budget)

-- a certificate that shows the answer, and its text
pub record IsCertifiedBy (k : Task) (budget : ℕ) (a : Answer) (text : List ℕ) : Type 0 where
  pub cert : Cert
  pub spelled : IsCertOf text cert
  pub shows : Shows k budget a cert

-- the text that is kept of an answer is that of a certificate which shows it
abbrev pub IsKeptOf : Task → ℕ → Answer → Option (List ℕ) → Type 0
IsKeptOf k budget EmptyReference cert = cert ≡ None
IsKeptOf k budget Correct cert = IsSomeAnd cert (IsCertifiedBy k budget Correct)
IsKeptOf k budget (Corrected cost fails edits p) cert =
    IsSomeAnd cert (IsCertifiedBy k budget (Corrected cost fails edits p))
IsKeptOf k budget (NoCorrection fails) cert =
    IsSomeAnd cert (IsCertifiedBy k budget (NoCorrection fails))
IsKeptOf k budget (Spent at_least of) cert =
    IsSomeAnd cert (IsCertifiedBy k budget (Spent at_least of))

-- the texts spell a task that nothing refuses, this answers it under the budget, and what is kept
-- shows it
pub record IsGradedAs (budget : ℕ) (ts : List (List ℕ)) (x : Graded) : Type 0 where
  pub task : (task_step ts).gives x.task
  pub answer : IsAnswer x.task x.answer
  pub cert : IsKeptOf x.task budget x.answer x.cert

abbrev pub status_of : Answer → Status
status_of Correct = status.Correct
status_of (Corrected cost fails edits p) = status.Corrected
status_of (NoCorrection fails) = status.NoCorrection
status_of EmptyReference = status.Refused
status_of (Spent at_least budget) = status.Spent

-- the refusal of a reference that gives no value on any input
abbrev pub empty_reference : Task → Refusal
empty_reference k =
    refusal source.Reference cause.EmptyReference (entry_line k.bounds k.reference)

-- what is written of an answer: its report, or that the reference is refused, by the word that
-- names it
abbrev pub answer_text : List ℕ → Task → Answer → List ℕ
answer_text word k Correct = report_of k Correct
answer_text word k (Corrected cost fails edits p) = report_of k (Corrected cost fails edits p)
answer_text word k (NoCorrection fails) = report_of k (NoCorrection fails)
answer_text word k EmptyReference = refusal_text word (empty_reference k)
answer_text word k (Spent at_least budget) = report_of k (Spent at_least budget)

abbrev pub grade_command : GradeWords → FileCommand Graded
grade_command g = record {
  files = files_of g;
  place = Some g.cert;
  decides = IsGradedAs g.budget;
  refuses = λ ts. (task_step ts).refuses;
  kept = λ x. x.cert;
  text = λ x. answer_text g.reference x.task x.answer;
  status = λ x. status_of x.answer;
  line = λ r. refusal_text (word_of g r.source) r;
}
