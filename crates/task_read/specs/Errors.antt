-- What the answers of the readers say.
use Rattle.std.specs.Prelude.{◌≡◌, ℕ, List, Result, Ok, Err}
use Rattle.mpy_tree.specs.declared.refusal.Cause.{Cause}
use Rattle.mpy_tree.specs.declared.refusal.Source.{Source}
use Rattle.mpy_tree.specs.declared.refusal.Refusal.{Refusal}
use Rattle.mpy_tree.specs.declared.tree.Prog.{Prog}
use Rattle.mpy_tree.specs.declared.typing.Fact.{Fact}
use Rattle.mpy_tree.specs.declared.typing.Types.{Types}
use Rattle.mpy_tree.specs.Syntax.{Routine}
use Rattle.mpy_tree.specs.View.{routines_of}
use Rattle.input_space.specs.declared.task.Task as code
use Rattle.input_space.specs.TaskParts.{task_with}
use Rattle.input_space.specs.Tasks.{Task}
use Rattle.source_files.specs.declared.stop.Stop.{Stop}
use Rattle.source_files.specs.declared.stop.Stop.TheVariants as stop
use Rattle.task_read.specs.declared.error.TaskError.{TaskError}
use Rattle.task_read.specs.declared.error.TaskError.TheVariants.{Refused, NoMemory}
use Rattle.task_read.specs.Sources.{IsOf}

-- what stops a command where a reader answers so
abbrev pub stop_of : TaskError → Stop
stop_of (Refused r) = stop.Refused r
stop_of NoMemory = stop.NoMemory

-- it is such a refusal, or memory lacked
abbrev pub RefusesAs : (Refusal → Type 0) → TaskError → Type 0
RefusesAs P (Refused r) = P r
RefusesAs P NoMemory = Unit {0}

-- the source is refused for a cause and at a line of which P holds, or memory lacked
abbrev pub RefusesBy : Source → (Cause → ℕ → Type 0) → TaskError → Type 0
RefusesBy s P = RefusesAs (IsOf s P)

-- this program and these facts are given, unless memory lacked
abbrev pub IsGiven : List Routine → List Fact → Result (Prog × Types) TaskError → Type 0
IsGiven p T (Ok r) = (routines_of r.0 ≡ p) × (r.1.facts ≡ T)
IsGiven p T (Err (Refused r)) = ⊥
IsGiven p T (Err NoMemory) = Unit {0}

-- the source is refused so, unless memory lacked
abbrev pub IsRefusal : Source → Cause → ℕ → Result (Prog × Types) TaskError → Type 0
IsRefusal s c line (Ok r) = ⊥
IsRefusal s c line (Err (Refused r)) = (r.source ≡ s) × (r.cause ≡ c) × (r.line ≡ line)
IsRefusal s c line (Err NoMemory) = Unit {0}

-- this task is given, unless memory lacked
abbrev pub IsTaskGiven : Task → Result code.Task TaskError → Type 0
IsTaskGiven k (Ok t) = task_with t ≡ k
IsTaskGiven k (Err (Refused r)) = ⊥
IsTaskGiven k (Err NoMemory) = Unit {0}

-- this refusal is answered, unless memory lacked
abbrev pub IsTaskRefused : Refusal → Result code.Task TaskError → Type 0
IsTaskRefused r (Ok t) = ⊥
IsTaskRefused r (Err (Refused q)) = q ≡ r
IsTaskRefused r (Err NoMemory) = Unit {0}
