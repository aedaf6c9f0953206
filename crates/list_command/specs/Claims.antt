-- What a status of `all` says.
use Rattle.std.specs.Prelude.{◌≡◌, ◌⊎◌, ◌<◌, ℕ, Bool, List}
use Rattle.grade_io.specs.Devices.{Devices, SinkState}
use Rattle.grade_io.specs.Kept.{FilesLeft}
use Rattle.grade_io.specs.Written.{Wrote}
use Rattle.grade_io.specs.declared.status.Status.{Status}
use Rattle.grade_io.specs.declared.status.Status.TheVariants as status
use Rattle.file_commands.specs.Claims.{IsSaid}
use Rattle.input_space.specs.Tasks.{HasWanted, NoneAgrees, Task}
use Rattle.source_files.specs.Texts.{AreHeld}
use Rattle.grade_core.specs.Decisions.{task_step}
use Rattle.least_all.specs.Answers.{AreMany}
use Rattle.list_command.specs.Commands.{all_files}
use Rattle.list_command.specs.Decisions.{AreBest, Best, Change, IsLeastCost, TooMany}
use Rattle.list_command.specs.Texts.{listing_text}
use Rattle.list_command.specs.Words.{AllWords}

-- WHATEVER THE FILES HOLD: a text is the file's where the shelf tells it

-- the best corrections were written, at their cost, and the files are as before
pub record PrintsBest (w : AllWords) (before after : Devices) : Type 0 where
  pub texts : List (List ℕ)
  pub held : AreHeld before.shelf (all_files w) texts
  pub task : Task
  pub given : (task_step texts).gives task
  pub cost : ℕ
  pub least : IsLeastCost task cost
  pub changes : List Change
  pub whole : Bool
  pub best : AreBest task cost w.most changes whole
  pub wrote : Wrote before.sink after.sink (listing_text w task cost (Best changes whole))
  pub files : FilesLeft before.shelf after.shelf

-- WHERE THE TEXTS ARE TOLD, and no device failed

-- more than 100,000 live selections have the least cost
abbrev pub HasMany : Task → Type 0
HasMany k = (cost : ℕ) × IsLeastCost k cost × AreMany k cost

-- the answer to a task that nothing refuses; want of memory stays possible
abbrev pub IsListedFor : Task → Status → Type 0
IsListedFor k status.Correct = IsLeastCost k 0
IsListedFor k status.Corrected = (cost : ℕ) × IsLeastCost k cost × (0 < cost)
IsListedFor k status.NoCorrection = NoneAgrees k
IsListedFor k status.Spent = Unit {0}
IsListedFor k status.Refused = (HasWanted k → ⊥) ⊎ HasMany k
IsListedFor k status.ReadFailed = ⊥
IsListedFor k status.WriteFailed = ⊥
IsListedFor k status.NoMemory = Unit {0}
IsListedFor k status.Usage = ⊥
IsListedFor k status.StoreFailed = ⊥
IsListedFor k status.Rejected = ⊥

-- that there are too many is written, or the budget is spent
abbrev pub IsManyOrSpent : AllWords → Task → SinkState → SinkState → Status → Type 0
IsManyOrSpent w k before after s =
    IsSaid (listing_text w k 0 TooMany) status.Refused before after s ⊎ (s ≡ status.Spent)
