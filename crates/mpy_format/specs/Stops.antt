-- Why no program is printed of a file, as the code answers it.
use Rattle.std.specs.Prelude.{◌≡◌, ◌⊎◌, ℕ, List, [], ◌∷◌, Result, Ok, Err, Vec}
use Rattle.std.specs.declared.alloc.Global.{Global}
use Rattle.grade_io.specs.Devices.{ShelfState, Fetch, Rose, added}
use Rattle.grade_io.specs.declared.devices.FetchError.{FetchError}
use Rattle.grade_io.specs.declared.devices.FetchError.TheVariants as fetch_error
use Rattle.mpy_tree.specs.declared.refusal.Cause.TheVariants as cause
use Rattle.mpy_tree.specs.Printing.{program_text}
use Rattle.mpy_tree.specs.Syntax.{Routine}
use Rattle.mpy_parser.specs.declared.read_error.ReadError.{ReadError}
use Rattle.mpy_parser.specs.declared.read_error.ReadError.TheVariants as read_error
use Rattle.mpy_format.specs.declared.page.Stop.{Stop}
use Rattle.mpy_format.specs.declared.page.Stop.TheVariants as stop
use Rattle.mpy_format.specs.Ends.{Formatted, Refused, IsDue}

abbrev pub stop_of_fetch : FetchError → Stop
stop_of_fetch fetch_error.Failed = stop.Failed
stop_of_fetch fetch_error.Long = stop.Refused cause.Long 0
stop_of_fetch fetch_error.NoMemory = stop.NoMemory

abbrev pub stop_of_read : ReadError → Stop
stop_of_read (read_error.Fault c line) = stop.Refused c line
stop_of_read read_error.NoMemory = stop.NoMemory

-- the text is that of the file's program
pub record FoundText (file : List ℕ) (shelf : ShelfState) (text : List ℕ) : Type 0 where
  pub program : List Routine
  pub due : IsDue file shelf (Formatted program)
  pub text_is : text ≡ program_text program

-- the cause and line are the file's
abbrev pub FoundNoText : List ℕ → ShelfState → Stop → Type 0
FoundNoText file shelf (stop.Refused c line) = IsDue file shelf (Refused c line)
FoundNoText file shelf stop.Failed = Unit {0}
FoundNoText file shelf stop.NoMemory = Unit {0}

-- the fetch, and the count of faults
abbrev pub IsFetchedWell : List ℕ → ShelfState → ShelfState → Type 0
IsFetchedWell file before after =
    (after.faults ≡ before.faults) × (after.calls ≡ added before.calls (Fetch file ∷ []))

abbrev pub ReadsTo : Result (Vec ℕ Global) Stop → List ℕ → ShelfState → ShelfState → Type 0
ReadsTo (Ok text) file before after = IsFetchedWell file before after
ReadsTo (Err (stop.Refused c line)) file before after = IsFetchedWell file before after
ReadsTo (Err stop.Failed) file before after =
    Rose before.faults after.faults × (after.calls ≡ added before.calls (Fetch file ∷ []))
ReadsTo (Err stop.NoMemory) file before after = (after.faults ≡ before.faults)
    × ((after.calls ≡ added before.calls (Fetch file ∷ [])) ⊎ (after.calls ≡ before.calls))
