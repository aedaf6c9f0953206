-- What is found of a command, and how the call ends that stores and writes it.
use Rattle.std.specs.Prelude.{◌≡◌, ℕ, List, Option, Result, Ok, Err, MatchResult}
use Rattle.std.specs.Option.{option_map}
use Rattle.grade_io.specs.Devices.{Devices, ShelfState, SinkState, StoreEnd}
use Rattle.grade_io.specs.Says.{Says}
use Rattle.grade_io.specs.declared.devices.StoreError.TheVariants as store_error
use Rattle.grade_io.specs.declared.status.Status.{Status}
use Rattle.grade_io.specs.declared.status.Status.TheVariants as status
use Rattle.mpy_tree.specs.declared.refusal.Refusal.{Refusal}
use Rattle.source_files.specs.Fetches.{StopsAs}
use Rattle.source_files.specs.declared.stop.Stop.{Stop}
use Rattle.source_files.specs.declared.stop.Stop.TheVariants as stop
use Rattle.file_commands.specs.Commands.{FileCommand, Answered}
use Rattle.file_commands.specs.Ends.{ComesOfFiles}
use Rattle.file_commands.specs.Keeping.{Keeps}
use Rattle.file_commands.specs.declared.report.Report.{Report}

-- the bytes that are to be kept of a report
abbrev pub bytes_of : Report → Option (List ℕ)
bytes_of r = option_map (λ v. v.items) r.kept

-- the report is that of an answer
pub record Shows {A : Type 0} (c : FileCommand A) (a : A) (r : Report) : Type 0 where
  pub text : r.text.items ≡ c.text a
  pub status : r.status ≡ c.status a
  pub kept : bytes_of r ≡ c.kept a

-- the texts decide an answer, and the report is its
pub record IsReport {A : Type 0} (c : FileCommand A) (ts : List (List ℕ)) (r : Report)
    : Type 0 where
  pub answer : A
  pub decided : c.decides ts answer
  pub shows : Shows c answer r

-- what is found of texts that fit: a report of what they decide, or their refusal
abbrev pub IsFound : {A : Type 0} → FileCommand A → List (List ℕ) → Result Report Stop → Type 0
IsFound c ts found = MatchResult found (IsReport c ts) (StopsAs (c.refuses ts))

-- an answer comes of the files, and the report is its
pub record ReportsFiles {A : Type 0} (c : FileCommand A) (before after : ShelfState) (r : Report)
    : Type 0 where
  pub answer : A
  pub comes : ComesOfFiles c before after (Answered answer)
  pub shows : Shows c answer r

-- the line of a refusal is written, and nothing where a device failed or memory lacked
abbrev pub IsStopWritten : (Refusal → List ℕ) → Stop → SinkState → SinkState → Status → Type 0
IsStopWritten line (stop.Refused q) before after s = Says (line q) status.Refused before after s
IsStopWritten line stop.Failed before after s = (s ≡ status.ReadFailed) × (after ≡ before)
IsStopWritten line stop.NoMemory before after s = (s ≡ status.NoMemory) × (after ≡ before)

-- a report is written, or what stopped the command
abbrev pub IsWritten : (Refusal → List ℕ) → Result Report Stop → SinkState → SinkState → Status
    → Type 0
IsWritten line (Ok r) before after s = Says r.text.items r.status before after s
IsWritten line (Err e) before after s = IsStopWritten line e before after s

-- a report is written behind a store that didn't fail, and else nothing
abbrev pub IsSaidBehind : StoreEnd → Report → SinkState → SinkState → Status → Type 0
IsSaidBehind (Ok x) r before after s = Says r.text.items r.status before after s
IsSaidBehind (Err store_error.Failed) r before after s =
    (s ≡ status.StoreFailed) × (after ≡ before)
IsSaidBehind (Err store_error.NoMemory) r before after s =
    (s ≡ status.NoMemory) × (after ≡ before)

-- what is kept of a report is stored first, and then the report is written
pub record IsKeptAndSaid (place : Option (List ℕ)) (r : Report) (before after : Devices)
    (s : Status) : Type 0 where
  pub store : StoreEnd
  pub keeps : Keeps place (bytes_of r) store before.shelf after.shelf
  pub says : IsSaidBehind store r before.sink after.sink s

-- what stops a command is written, and nothing is stored
pub record StopsSo (line : Refusal → List ℕ) (e : Stop) (before after : Devices) (s : Status)
    : Type 0 where
  pub shelf : after.shelf ≡ before.shelf
  pub writes : IsStopWritten line e before.sink after.sink s

-- a report is kept and written, or what stopped the command is written
abbrev pub IsKeptAndWritten : Option (List ℕ) → (Refusal → List ℕ) → Result Report Stop → Devices
    → Devices → Status → Type 0
IsKeptAndWritten place line (Ok r) before after s = IsKeptAndSaid place r before after s
IsKeptAndWritten place line (Err e) before after s = StopsSo line e before after s
