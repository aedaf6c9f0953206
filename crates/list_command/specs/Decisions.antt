-- What the texts of `all` decide.
use Rattle.std.specs.Prelude.{ℕ, Bool, List, []}
use Rattle.std.specs.List.{AllZip}
use Rattle.mpy_tree.specs.Syntax.{Routine}
use Rattle.choice_tree.specs.declared.selection.Choice.{Choice}
use Rattle.choice_tree.specs.Rewriting as tree
use Rattle.input_space.specs.declared.session.Session.{Session}
use Rattle.input_space.specs.Tasks.{HasWanted, IsBestOf, Task, tree_of}
use Rattle.cert_text.specs.declared.cert.Claim.TheVariants as claim
use Rattle.cert_text.specs.Certificates.{IsCertOf, cert_with}
use Rattle.feedback_text.specs.Answers.{Answer, Correct, Corrected, NoCorrection, EmptyReference}
use Rattle.feedback_text.specs.Answers.{Edit, Spent}
use Rattle.feedback_text.specs.AnswerViews.{Makes}
use Rattle.grade_core.specs.Commands.{Graded, IsGradedAs}
use Rattle.grade_core.specs.Decisions.{task_step}
use Rattle.least_all.specs.Answers.{AreMany, IsListed, IsSpent, live_at}
use Rattle.list_command.specs.Words.{AllWords}

-- a correction: its edits, and the corrected program
pub record Change : Type 0 where
  pub edits : List Edit
  pub program : List Routine

-- What is listed of a task at its least cost: corrections, and whether these are all; that there
-- are too many selections to be looked at; or the text of a certificate that the budget is spent.
pub data Listing : Type 0 where
  Best : (changes : List Change) (whole : Bool) → Listing
  TooMany : Listing
  Unlisted : (cert : List ℕ) → Listing

-- the corrections are by the selections of the first of the best list
pub record AreBest (k : Task) (cost most : ℕ) (changes : List Change) (whole : Bool)
    : Type 0 where
  pub picks : List (List Choice)
  pub listed : IsListed k (live_at k cost) most picks whole
  pub made : AllZip (λ s c. Makes (tree_of k) s c.program c.edits) picks changes

-- the text is that of a certificate without cases, whose sessions ask which selections agree
pub record CertifiesSpent (k : Task) (cost budget : ℕ) (text : List ℕ) : Type 0 where
  pub sessions : List Session
  pub spent : IsSpent k (live_at k cost) budget sessions
  pub spelled : IsCertOf text (cert_with (claim.Spent budget) [] [] sessions)

abbrev pub IsListing : AllWords → Task → ℕ → Listing → Type 0
IsListing w k cost (Best changes whole) =
    (AreMany k cost → ⊥) × AreBest k cost w.most changes whole
IsListing w k cost TooMany = AreMany k cost
IsListing w k cost (Unlisted cert) =
    (AreMany k cost → ⊥) × CertifiesSpent k cost w.budget cert

-- the reference gives a value on some input, and a best rewriting has this cost
pub record IsLeastCost (k : Task) (cost : ℕ) : Type 0 where
  pub wanted : HasWanted k
  pub program : List Routine
  pub edits : List tree.Edit
  pub best : IsBestOf k program cost edits

-- What `all` answers: what is listed of a task with a correction; or else what `grade` does.
pub data AllAnswer : Type 0 where
  Listed : (k : Task) (cost : ℕ) (listing : Listing) → AllAnswer
  AsGraded : (x : Graded) → AllAnswer

-- no correction is answered
abbrev pub IsNoCorrection : Answer → Type 0
IsNoCorrection Correct = ⊥
IsNoCorrection (Corrected cost fails edits p) = ⊥
IsNoCorrection (NoCorrection fails) = Unit {0}
IsNoCorrection EmptyReference = Unit {0}
IsNoCorrection (Spent at_least budget) = Unit {0}

-- the texts spell a task that nothing refuses, and this is listed of it at its least cost
pub record IsListedAs (w : AllWords) (ts : List (List ℕ)) (k : Task) (cost : ℕ) (l : Listing)
    : Type 0 where
  pub task : (task_step ts).gives k
  pub least : IsLeastCost k cost
  pub listing : IsListing w k cost l

abbrev pub all_decides : AllWords → List (List ℕ) → AllAnswer → Type 0
all_decides w ts (Listed k cost l) = IsListedAs w ts k cost l
all_decides w ts (AsGraded x) = IsGradedAs w.budget ts x × IsNoCorrection x.answer
