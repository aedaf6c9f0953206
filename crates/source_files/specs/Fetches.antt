-- What the fetches of files answer, and what they leave.
use Rattle.std.specs.Prelude.{◌≡◌, ◌⊎◌, ℕ, ◌<◌, List, [], ◌∷◌, take, length, Option, Some, Result}
use Rattle.std.specs.Prelude.{Ok, Err}
use Rattle.grade_io.specs.Devices.{ShelfState, ShelfCall, Rose, added}
use Rattle.grade_io.specs.declared.devices.FetchError.{FetchError}
use Rattle.grade_io.specs.declared.devices.FetchError.TheVariants as error
use Rattle.mpy_tree.specs.declared.refusal.Cause.TheVariants as cause
use Rattle.mpy_tree.specs.declared.refusal.Source.{Source}
use Rattle.mpy_tree.specs.declared.refusal.Refusal.{Refusal}
use Rattle.source_files.specs.declared.stop.Stop.{Stop}
use Rattle.source_files.specs.declared.stop.Stop.TheVariants as stop
use Rattle.source_files.specs.Files.{SourceFile, fetches, limit_of, sources_of}
use Rattle.source_files.specs.Refusing.{refusal}
use Rattle.source_files.specs.Texts.{AreHeld, IsTooLong, TookTooMuch}

-- what stops at a source whose fetch gave this error
abbrev pub stop_of : Source → FetchError → Stop
stop_of s error.Failed = stop.Failed
stop_of s error.Long = stop.Refused (refusal s cause.Long 0)
stop_of s error.NoMemory = stop.NoMemory

-- a fact for a refusal
abbrev pub OnRefused : (Refusal → Type 0) → Stop → Type 0
OnRefused P (stop.Refused r) = P r
OnRefused P stop.Failed = Unit {0}
OnRefused P stop.NoMemory = Unit {0}

-- it stops at such a refusal, or memory lacked
abbrev pub StopsAs : (Refusal → Type 0) → Stop → Type 0
StopsAs P (stop.Refused r) = P r
StopsAs P stop.Failed = ⊥
StopsAs P stop.NoMemory = Unit {0}

-- the shelf counted a fault exactly where it stops for that
abbrev pub ReadFaults : {T : Type 0} → Result T Stop → ShelfState → ShelfState → Type 0
ReadFaults (Err stop.Failed) before after = Rose before.faults after.faults
ReadFaults (Ok x) before after = after.faults ≡ before.faults
ReadFaults (Err (stop.Refused r)) before after = after.faults ≡ before.faults
ReadFaults (Err stop.NoMemory) before after = after.faults ≡ before.faults

-- the call was added to the list, but that one that found no memory may be left out
abbrev pub MadeOneFetch : {T : Type 0} → Result T Stop → ShelfCall → Option (List ShelfCall)
    → Option (List ShelfCall) → Type 0
MadeOneFetch (Err stop.NoMemory) call old new = (new ≡ added old (call ∷ [])) ⊎ (new ≡ old)
MadeOneFetch (Ok x) call old new = new ≡ added old (call ∷ [])
MadeOneFetch (Err stop.Failed) call old new = new ≡ added old (call ∷ [])
MadeOneFetch (Err (stop.Refused r)) call old new = new ≡ added old (call ∷ [])

-- the calls that were made are the first of the fetches of the files, in order
abbrev pub FetchesInOrder : List SourceFile → ShelfState → ShelfState → Type 0
FetchesInOrder fs before after =
    (n : ℕ) × (after.calls ≡ added before.calls (take n (fetches fs)))

-- the calls that were made are the fetches of all files, in order
abbrev pub FetchedAll : List SourceFile → ShelfState → ShelfState → Type 0
FetchedAll fs before after = after.calls ≡ added before.calls (fetches fs)

-- the file is too long, where it is told, and is refused for that
pub record IsLongFile (f : SourceFile) (before after : ShelfState) (r : Refusal) : Type 0 where
  pub refusal_is : r ≡ refusal f.source cause.Long 0
  pub told : (text : List ℕ) → before.holds f.word ≡ Some text → limit_of f.source < length text
  pub taken : TookTooMuch f.source after

-- There are texts, those of the files where these are told, the first of which that is too long is
-- so.
pub record IsLongSource (fs : List SourceFile) (before after : ShelfState) (r : Refusal)
    : Type 0 where
  pub texts : List (List ℕ)
  pub held : AreHeld before fs texts
  pub long : IsTooLong (sources_of fs) texts r
  pub taken : TookTooMuch r.source after
