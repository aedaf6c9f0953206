-- What the grading of a task answers, in the words of a reader.
use Rattle.std.specs.Prelude.{◌≡◌, ◌⊎◌, ℕ, List}
use Rattle.grade_io.specs.Devices.{SinkState}
use Rattle.grade_io.specs.declared.status.Status.{Status}
use Rattle.grade_io.specs.declared.status.Status.TheVariants as status
use Rattle.file_commands.specs.Claims.{IsSaid}
use Rattle.input_space.specs.Agreement.{Agrees}
use Rattle.input_space.specs.Tasks.{Task, HasWanted, NoneAgrees}

-- the answer to a task that nothing refuses; want of memory stays possible
abbrev pub IsGraded : Task → Status → Type 0
IsGraded k status.Correct = HasWanted k × Agrees k.bounds k.reference k.submission
IsGraded k status.Corrected = Agrees k.bounds k.reference k.submission → ⊥
IsGraded k status.NoCorrection = NoneAgrees k
IsGraded k status.Spent = Unit {0}
IsGraded k status.Refused = HasWanted k → ⊥
IsGraded k status.ReadFailed = ⊥
IsGraded k status.WriteFailed = ⊥
IsGraded k status.NoMemory = Unit {0}
IsGraded k status.Usage = ⊥
IsGraded k status.StoreFailed = ⊥
IsGraded k status.Rejected = ⊥

-- this refusal is written whole, and nothing else, or the budget is spent
abbrev pub IsRefusedOrSpent : List ℕ → SinkState → SinkState → Status → Type 0
IsRefusedOrSpent text before after s =
    IsSaid text status.Refused before after s ⊎ (s ≡ status.Spent)
