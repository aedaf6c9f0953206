-- What is told of a listed file: what `grade` may answer for its texts.
use Rattle.std.specs.Prelude.{◌≡◌, ℕ, List, [], ◌∷◌, Option, None}
use Rattle.grade_io.specs.declared.status.Status.{Status}
use Rattle.grade_io.specs.declared.status.Status.TheVariants as status
use Rattle.file_commands.specs.Commands.{FileCommand, Outcome, Answered, Refused, kept_of}
use Rattle.file_commands.specs.Commands.{status_of, text_of}
use Rattle.grade_core.specs.Commands.{Graded, grade_command}
use Rattle.class_text.specs.Entries.{Entry}
use Rattle.class_run.specs.Classes.{Class, Shared}
use Rattle.class_core.specs.Words.{ClassWords, grade_words}

-- the texts of the four sources of a submission
abbrev pub task_texts : Shared → List ℕ → List (List ℕ)
task_texts t submission = t.bounds ∷ t.reference ∷ submission ∷ t.rules ∷ []

-- the command by which a listed file is graded
abbrev pub command_for : ClassWords → List ℕ → FileCommand Graded
command_for w name = grade_command (grade_words w name)

-- what the texts decide
abbrev pub Decides : {A : Type 0} → FileCommand A → List (List ℕ) → Outcome A → Type 0
Decides c ts (Answered a) = c.decides ts a
Decides c ts (Refused r) = c.refuses ts r

-- of what is kept, the certificate of a spent budget is told
abbrev pub told_certificate : Status → Option (List ℕ) → Option (List ℕ)
told_certificate status.Spent kept = kept
told_certificate _ kept = None

-- the entry has the status and the text of an outcome that the texts decide
pub record IsGradedFile (w : ClassWords) (t : Shared) (name text : List ℕ) (x : Entry)
    : Type 0 where
  pub outcome : Outcome Graded
  pub decided : Decides (command_for w name) (task_texts t text) outcome
  pub status_is : x.status ≡ status_of (command_for w name) outcome
  pub report_is : x.report ≡ text_of (command_for w name) outcome
  pub certificate_is : x.certificate
      ≡ told_certificate x.status (kept_of (command_for w name) outcome)

abbrev pub class_of : ClassWords → Class
class_of w = record {
  files = record {
    bounds = w.bounds;
    reference = w.reference;
    rules = w.rules;
    list = w.list;
  };
  tells = IsGradedFile w;
}
