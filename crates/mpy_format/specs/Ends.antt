-- What comes of a file, what is written of it, and what each status means.
use Rattle.std.specs.Prelude.{◌≡◌, ◌⊎◌, ℕ, ◌<◌, ◌≤◌, List, [], ◌∷◌, length}
use Rattle.grade_io.specs.Devices.{ShelfState, Fetch, Devices, Rose, added}
use Rattle.grade_io.specs.Kept.{Holds}
use Rattle.grade_io.specs.Says.{Says, StoodStill}
use Rattle.grade_io.specs.Written.{WroteNothing}
use Rattle.grade_io.specs.declared.status.Status.{Status}
use Rattle.grade_io.specs.declared.status.Status.TheVariants as status
use Rattle.mpy_tree.specs.declared.refusal.Cause.{Cause}
use Rattle.mpy_tree.specs.declared.refusal.Cause.TheVariants as cause
use Rattle.mpy_tree.specs.declared.refusal.Source.TheVariants as source
use Rattle.mpy_tree.specs.Printing.{program_text}
use Rattle.mpy_tree.specs.Refusals.{refusal_text}
use Rattle.mpy_tree.specs.Syntax.{Routine}
use Rattle.mpy_parser.specs.Programs.{IsProgram, IsRefused}

-- what comes of a file: its program, or the cause and line for which it is none
pub data Outcome : Type 0 where
  Formatted : (rs : List Routine) → Outcome
  Refused : (c : Cause) (line : ℕ) → Outcome

-- a file may have this many bytes
abbrev pub file_limit : ℕ
file_limit = 65536

abbrev pub refused_text : List ℕ → Cause → ℕ → List ℕ
refused_text file c line =
    refusal_text file (record { source = source.Submission; cause = c; line = line })

-- what is written of an outcome
abbrev pub text_of_outcome : List ℕ → Outcome → List ℕ
text_of_outcome file (Formatted rs) = program_text rs
text_of_outcome file (Refused c line) = refused_text file c line

-- the status of an outcome that is written whole
abbrev pub status_of : Outcome → Status
status_of (Formatted rs) = status.Correct
status_of (Refused c line) = status.Refused

-- the file is too long
pub record IsTooLong (bytes : List ℕ) (c : Cause) (line : ℕ) : Type 0 where
  pub long : file_limit < length bytes
  pub cause_is : c ≡ cause.Long
  pub line_is : line ≡ 0

-- each outcome comes of these bytes only so
abbrev pub IsOutcomeOf : List ℕ → Outcome → Type 0
IsOutcomeOf bytes (Formatted rs) = (length bytes ≤ file_limit) × IsProgram bytes rs
IsOutcomeOf bytes (Refused c line) =
    IsTooLong bytes c line ⊎ ((length bytes ≤ file_limit) × IsRefused bytes c line)

-- there are bytes, those of the file where these are told, of which the outcome comes
pub record IsDue (file : List ℕ) (shelf : ShelfState) (o : Outcome) : Type 0 where
  pub bytes : List ℕ
  pub told : Holds shelf file bytes
  pub comes : IsOutcomeOf bytes o

-- an outcome that is due is written
pub record EndsBySaying (file : List ℕ) (before after : Devices) (s : Status) : Type 0 where
  pub outcome : Outcome
  pub due : IsDue file before.shelf outcome
  pub says : Says (text_of_outcome file outcome) (status_of outcome) before.sink after.sink s

-- nothing was written, and the sink counted no fault
abbrev pub EndsInSilence : Devices → Devices → Type 0
EndsInSilence before after =
    WroteNothing before.sink after.sink × StoodStill before.sink after.sink

-- the shelf counted no fault
abbrev pub ReadWell : Devices → Devices → Type 0
ReadWell before after = after.shelf.faults ≡ before.shelf.faults

-- what each status means, what stands in the output, and which device counted a fault
abbrev pub Ends : List ℕ → Devices → Devices → Status → Type 0
Ends file before after status.ReadFailed =
    Rose before.shelf.faults after.shelf.faults × EndsInSilence before after
Ends file before after status.NoMemory =
    ReadWell before after
    × (EndsInSilence before after ⊎ EndsBySaying file before after status.NoMemory)
Ends file before after s = ReadWell before after × EndsBySaying file before after s

-- the file was fetched once, and no other call was made; one that found no memory may be left out
abbrev pub IsFetched : List ℕ → ShelfState → ShelfState → Status → Type 0
IsFetched file before after status.NoMemory =
    (after.calls ≡ added before.calls (Fetch file ∷ [])) ⊎ (after.calls ≡ before.calls)
IsFetched file before after s = after.calls ≡ added before.calls (Fetch file ∷ [])
