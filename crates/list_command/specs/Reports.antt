-- The reports of listings.
use Rattle.std.specs.Prelude.{◌≡◌, ℕ, ◌++◌, List, [], Option, None}
use Rattle.std.specs.List.{AllZip}
use Rattle.choice_tree.specs.declared.selection.Choice.{Choice}
use Rattle.input_space.specs.Tasks.{Task, tree_of}
use Rattle.file_commands.specs.Reports.{bytes_of}
use Rattle.file_commands.specs.declared.report.Report.{Report}
use Rattle.feedback_text.specs.declared.answer.Answer as code
use Rattle.feedback_text.specs.Answers.{Spent}
use Rattle.feedback_text.specs.AnswerViews.{Makes}
use Rattle.feedback_text.specs.Reports.{report_of}
use Rattle.feedback_text.specs.ReportViews.{ShowsCorrection}
use Rattle.list_command.specs.Decisions.{CertifiesSpent, Change, IsListing, Listing}
use Rattle.list_command.specs.Texts.{cert_bytes, changes_text, listing_status, listing_text}
use Rattle.list_command.specs.Words.{AllWords}

-- what a task has at this cost is listed, and this is the report of it, of which nothing is kept
pub record IsListReport (w : AllWords) (k : Task) (cost : ℕ) (r : Report) : Type 0 where
  pub listing : Listing
  pub is : IsListing w k cost listing
  pub text : r.text.items ≡ listing_text w k cost listing
  pub status : r.status ≡ listing_status cost listing
  pub kept : bytes_of r ≡ None

-- the lines for what a selection makes are added to a text
pub record AddsCorrection (k : Task) (s : List Choice) (old new : List ℕ) : Type 0 where
  pub lines : List ℕ
  pub shows : ShowsCorrection k s lines
  pub text_is : new ≡ old ++ lines

-- the corrections by these selections, numbered from 1, are added to a text
pub record ListsChanges (k : Task) (picks : List (List Choice)) (old new : List ℕ) : Type 0 where
  pub changes : List Change
  pub made : AllZip (λ s c. Makes (tree_of k) s c.program c.edits) picks changes
  pub text_is : new ≡ old ++ changes_text k.rules 1 changes

-- the code answers no correction
abbrev pub HasNoCorrection : code.Answer → Type 0
HasNoCorrection code.TheVariants.Correct = ⊥
HasNoCorrection (code.TheVariants.Corrected s cost fails) = ⊥
HasNoCorrection (code.TheVariants.NoCorrection fails) = Unit {0}
HasNoCorrection code.TheVariants.EmptyReference = Unit {0}
HasNoCorrection (code.TheVariants.Spent at_least budget) = Unit {0}
HasNoCorrection code.TheVariants.NoMemory = Unit {0}

-- the certificate that is written behind what it answers
abbrev pub cert_behind : code.Answer → Option (List ℕ) → List ℕ
cert_behind code.TheVariants.Correct cert = []
cert_behind (code.TheVariants.Corrected s cost fails) cert = []
cert_behind (code.TheVariants.NoCorrection fails) cert = []
cert_behind code.TheVariants.EmptyReference cert = []
cert_behind (code.TheVariants.Spent at_least budget) cert = cert_bytes cert
cert_behind code.TheVariants.NoMemory cert = []

-- what `grade` writes of a spent budget, and behind it the certificate
pub record IsSpentText (k : Task) (cost budget : ℕ) (text : List ℕ) : Type 0 where
  pub cert : List ℕ
  pub certifies : CertifiesSpent k cost budget cert
  pub text_is : text ≡ report_of k (Spent cost budget) ++ cert
