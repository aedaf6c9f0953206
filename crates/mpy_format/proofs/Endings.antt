-- From an outcome that is due and written to how a file ends.
use Rattle.std.proofs.Common.{◌≡◌, ◌≤◌, ◌<◌, ℕ, List, length, Result, Ok, Err, IfErr, IsErrAnd, Some, inl, inr, refl}
use Rattle.grade_io.specs.Devices.{Devices, ShelfState}
use Rattle.grade_io.specs.Kept.{Holds}
use Rattle.grade_io.specs.Says.{Says}
use Rattle.grade_io.specs.declared.status.Status.{Status}
use Rattle.grade_io.specs.declared.status.Status.TheVariants as status
use Rattle.grade_io.specs.declared.devices.FetchError.{FetchError}
use Rattle.grade_io.specs.declared.devices.FetchError.TheVariants as fetch_error
use Rattle.grade_io.proofs.LongFile.{long_file}
use Rattle.mpy_tree.specs.declared.refusal.Cause.TheVariants as cause
use Rattle.mpy_tree.specs.Printing.{program_text}
use Rattle.mpy_tree.specs.Syntax.{Routine}
use Rattle.mpy_parser.specs.Programs.{IsProgram, IsAnswered}
use Rattle.mpy_parser.specs.declared.read_error.ReadError.{ReadError}
use Rattle.mpy_parser.specs.declared.read_error.ReadError.TheVariants as read_error
use Rattle.mpy_format.specs.declared.page.Stop.{Stop}
use Rattle.mpy_format.specs.Ends.{Formatted, Refused, Outcome, Ends, IsDue, ReadWell, status_of, text_of_outcome, file_limit}
use Rattle.mpy_format.specs.Stops.{FoundText, FoundNoText, stop_of_fetch, stop_of_read}

-- the text of the fetched bytes
pub found : (file bytes text : List ℕ) (shelf : ShelfState) → Holds shelf file bytes → length bytes ≤ file_limit
    → ((rs : List Routine) × (IsProgram bytes rs × (text ≡ program_text rs))) → FoundText file shelf text
found file bytes text shelf told fits p = record {
  program = p.0;
  due = record { bytes = bytes; told = told; comes = (fits, p.1.0) };
  text_is = p.1.1;
}

-- why they have none
pub unread : (file bytes : List ℕ) (shelf : ShelfState) (e : ReadError) → Holds shelf file bytes → length bytes ≤ file_limit
    → IsAnswered bytes e → FoundNoText file shelf (stop_of_read e)
unread file bytes shelf (read_error.Fault c line) told fits is = record { bytes = bytes; told = told; comes = inr (fits, is) }
unread file bytes shelf read_error.NoMemory told fits is = tt

-- a file that is too long
pub too_long : (file : List ℕ) (shelf : ShelfState) → ((bytes : List ℕ) → shelf.holds file ≡ Some bytes → file_limit < length bytes)
    → IsDue file shelf (Refused cause.Long 0)
too_long file shelf long =
    let l = long_file (shelf.holds file) file_limit long in
    record { bytes = l.bytes; told = l.told; comes = inl (record { long = l.long; cause_is = refl; line_is = refl }) }

-- why a file that wasn't fetched has none
pub unfetched : {T : Type 0} (file : List ℕ) (shelf : ShelfState) (e : FetchError) (r : Result T Stop) → IsErrAnd r (λ s. s ≡ stop_of_fetch e)
    → (e ≡ fetch_error.Long → (bytes : List ℕ) → shelf.holds file ≡ Some bytes → file_limit < length bytes) → IfErr r (FoundNoText file shelf)
unfetched file shelf e (Ok x) is long = tt
unfetched file shelf fetch_error.Failed (Err s) is long = rw is tt
unfetched file shelf fetch_error.Long (Err s) is long = rw is (too_long file shelf (long refl))
unfetched file shelf fetch_error.NoMemory (Err s) is long = rw is tt

-- no outcome has the status of a failed read
never_read_failed : (o : Outcome) → status.ReadFailed ≡ status_of o → ⊥
never_read_failed (Formatted rs) e = cc
never_read_failed (Refused c line) e = cc

pub ends_by_saying : (file : List ℕ) (before after : Devices) (o : Outcome) (s : Status) → ReadWell before after
    → IsDue file before.shelf o → Says (text_of_outcome file o) (status_of o) before.sink after.sink s → Ends file before after s
ends_by_saying file before after o status.ReadFailed well due says = absurd (never_read_failed o says.0)
ends_by_saying file before after o status.NoMemory well due says = (well, inr (record { outcome = o; due = due; says = says }))
ends_by_saying file before after o status.Correct well due says = (well, record { outcome = o; due = due; says = says })
ends_by_saying file before after o status.Corrected well due says = (well, record { outcome = o; due = due; says = says })
ends_by_saying file before after o status.NoCorrection well due says = (well, record { outcome = o; due = due; says = says })
ends_by_saying file before after o status.Spent well due says = (well, record { outcome = o; due = due; says = says })
ends_by_saying file before after o status.Refused well due says = (well, record { outcome = o; due = due; says = says })
ends_by_saying file before after o status.WriteFailed well due says = (well, record { outcome = o; due = due; says = says })
ends_by_saying file before after o status.StoreFailed well due says = (well, record { outcome = o; due = due; says = says })
ends_by_saying file before after o status.Usage well due says = (well, record { outcome = o; due = due; says = says })
ends_by_saying file before after o status.Rejected well due says = (well, record { outcome = o; due = due; says = says })
