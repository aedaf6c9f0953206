-- What a status of `pick` says.
use Rattle.std.specs.Prelude.{ℕ, List}
use Rattle.grade_io.specs.Devices.{Devices}
use Rattle.grade_io.specs.Kept.{FilesLeft}
use Rattle.grade_io.specs.Written.{Wrote}
use Rattle.grade_io.specs.declared.status.Status.{Status}
use Rattle.grade_io.specs.declared.status.Status.TheVariants as status
use Rattle.source_files.specs.Texts.{AreHeld}
use Rattle.pick_command.specs.Commands.{pick_files}
use Rattle.pick_command.specs.Decisions.{IsPickedFor, PickAnswer}
use Rattle.pick_command.specs.Texts.{pick_text}
use Rattle.pick_command.specs.Words.{PickWords}

-- whatever the files hold: the cases and marks were written that the submissions choose
pub record TellsPick (w : PickWords) (before after : Devices) : Type 0 where
  pub texts : List (List ℕ)
  pub held : AreHeld before.shelf (pick_files w) texts
  pub answer : PickAnswer
  pub picked : IsPickedFor texts answer
  pub wrote : Wrote before.sink after.sink (pick_text w answer)
  pub files : FilesLeft before.shelf after.shelf

-- where the texts are told and nothing refuses them, no device failed: they are answered, unless
-- memory lacks
abbrev pub IsAnswered : Status → Type 0
IsAnswered status.Correct = Unit {0}
IsAnswered status.Corrected = ⊥
IsAnswered status.NoCorrection = ⊥
IsAnswered status.Spent = ⊥
IsAnswered status.Refused = ⊥
IsAnswered status.ReadFailed = ⊥
IsAnswered status.WriteFailed = ⊥
IsAnswered status.NoMemory = Unit {0}
IsAnswered status.Usage = ⊥
IsAnswered status.StoreFailed = ⊥
IsAnswered status.Rejected = ⊥
