-- How a command ends: what each status means, and what it leaves.
use Rattle.std.specs.Prelude.{◌≡◌, ◌⊎◌, ℕ, ◌<◌, List, [], ◌∷◌, length, Some, IsSome}
use Rattle.grade_io.specs.Devices.{ShelfState, SinkState, Devices, Rose, Store, added}
use Rattle.grade_io.specs.Kept.{FilesLeft, OthersKept}
use Rattle.grade_io.specs.Says.{Says, StoodStill}
use Rattle.grade_io.specs.Written.{WroteNothing}
use Rattle.grade_io.specs.declared.status.Status.{Status}
use Rattle.grade_io.specs.declared.status.Status.TheVariants as status
use Rattle.mpy_tree.specs.declared.refusal.Refusal.{Refusal}
use Rattle.source_files.specs.Fetches.{FetchedAll, FetchesInOrder}
use Rattle.source_files.specs.Files.{sources_of}
use Rattle.source_files.specs.Texts.{AllFit, AreHeld, IsTooLong, TookTooMuch}
use Rattle.file_commands.specs.Commands.{FileCommand, Outcome, Answered, Refused}
use Rattle.file_commands.specs.Commands.{kept_of, status_of, text_of}
use Rattle.file_commands.specs.Keeping.{FilesAfter, OthersLeft}

-- the first refusal of the texts: lengths are looked at first, and then what the texts say
abbrev pub IsFirstRefusal : {A : Type 0} → FileCommand A → List (List ℕ) → Refusal → Type 0
IsFirstRefusal c ts r =
    IsTooLong (sources_of c.files) ts r ⊎ (AllFit (sources_of c.files) ts × c.refuses ts r)

-- what comes of texts; a source is too long only where too much was taken
abbrev pub ComesOf : {A : Type 0} → FileCommand A → List (List ℕ) → ShelfState → Outcome A → Type 0
ComesOf c ts after (Answered a) = AllFit (sources_of c.files) ts × c.decides ts a
ComesOf c ts after (Refused r) =
    (IsTooLong (sources_of c.files) ts r × TookTooMuch r.source after)
    ⊎ (AllFit (sources_of c.files) ts × c.refuses ts r)

-- There are texts, those of the files where these are told, of which the outcome comes. They are
-- the ones of the whole claim, also on a shelf that tells nothing.
pub record ComesOfFiles {A : Type 0} (c : FileCommand A) (before after : ShelfState)
    (o : Outcome A) : Type 0 where
  pub texts : List (List ℕ)
  pub held : AreHeld before c.files texts
  pub comes : ComesOf c texts after o

-- the shelf counted no fault
abbrev pub ShelfStoodStill : ShelfState → ShelfState → Type 0
ShelfStoodStill before after = after.faults ≡ before.faults

-- nothing was written, and the sink counted no fault
pub record IsSilent (before after : SinkState) : Type 0 where
  pub written : WroteNothing before after
  pub still : StoodStill before after

-- an outcome that comes of the files is written, and the files are as before, but for what is kept
pub record EndsBySaying {A : Type 0} (c : FileCommand A) (before after : Devices) (s : Status)
    : Type 0 where
  pub still : ShelfStoodStill before.shelf after.shelf
  pub outcome : Outcome A
  pub comes : ComesOfFiles c before.shelf after.shelf outcome
  pub says : Says (text_of c outcome) (status_of c outcome) before.sink after.sink s
  pub files : FilesAfter c.place (kept_of c outcome) before.shelf after.shelf

-- memory lacked before anything was written; a store may have been begun
pub record EndsInSilence {A : Type 0} (c : FileCommand A) (before after : Devices) : Type 0 where
  pub still : ShelfStoodStill before.shelf after.shelf
  pub silent : IsSilent before.sink after.sink
  pub files : OthersLeft c.place before.shelf after.shelf

-- a fetch failed: there are files, the shelf counted a fault, and nothing was stored
pub record ReadStops {A : Type 0} (c : FileCommand A) (before after : Devices) : Type 0 where
  pub some : 0 < length c.files
  pub rose : Rose before.shelf.faults after.shelf.faults
  pub calls : FetchesInOrder c.files before.shelf after.shelf
  pub files : FilesLeft before.shelf after.shelf
  pub silent : IsSilent before.sink after.sink

-- The store failed of what is kept of an answer that comes of the files: all of these had been
-- fetched by then, without a fault. What stands under the word is open.
pub record StoreStops {A : Type 0} (c : FileCommand A) (before after : Devices) : Type 0 where
  pub name : List ℕ
  pub place : c.place ≡ Some name
  pub answer : A
  pub comes : ComesOfFiles c before.shelf after.shelf (Answered answer)
  pub kept : IsSome (c.kept answer)
  pub read : ShelfState
  pub fetched : FetchedAll c.files before.shelf read
  pub well : ShelfStoodStill before.shelf read
  pub stored : after.shelf.calls ≡ added read.calls (Store name ∷ [])
  pub rose : Rose read.faults after.shelf.faults
  pub others : OthersKept name before.shelf after.shelf
  pub silent : IsSilent before.sink after.sink

-- What each status means, what stands in the output and in the files, and which device counted a
-- fault: by `Says` the sink did where the status is WriteFailed alone.
abbrev pub Ends : {A : Type 0} → FileCommand A → Devices → Devices → Status → Type 0
Ends c before after status.ReadFailed = ReadStops c before after
Ends c before after status.StoreFailed = StoreStops c before after
Ends c before after status.NoMemory =
    EndsInSilence c before after ⊎ EndsBySaying c before after status.NoMemory
Ends c before after status.WriteFailed = EndsBySaying c before after status.WriteFailed
Ends c before after status.Correct = EndsBySaying c before after status.Correct
Ends c before after status.Corrected = EndsBySaying c before after status.Corrected
Ends c before after status.NoCorrection = EndsBySaying c before after status.NoCorrection
Ends c before after status.Spent = EndsBySaying c before after status.Spent
Ends c before after status.Refused = EndsBySaying c before after status.Refused
Ends c before after status.Usage = EndsBySaying c before after status.Usage
Ends c before after status.Rejected = EndsBySaying c before after status.Rejected
