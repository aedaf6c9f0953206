-- How a class ends: what each status means, and which calls were made.
use Rattle.std.specs.Prelude.{◌≡◌, ◌⊎◌, ℕ, List, ◌++◌, map, take}
use Rattle.grade_io.specs.Devices.{Devices, ShelfState, Fetch, Rose, added}
use Rattle.grade_io.specs.Kept.{Holds}
use Rattle.source_files.specs.Fetches.{FetchesInOrder}
use Rattle.source_files.specs.Files.{fetches}
use Rattle.file_commands.specs.Ends.{IsSilent, ShelfStoodStill}
use Rattle.class_text.specs.Listings.{Lists}
use Rattle.class_run.specs.declared.status.ClassStatus.{ClassStatus}
use Rattle.class_run.specs.declared.status.ClassStatus.TheVariants as status
use Rattle.class_run.specs.Classes.{Class, ClassFiles, Shared, files_of}
use Rattle.class_run.specs.Listed.{FetchesFirst}
use Rattle.class_run.specs.Outcomes.{AreRead, Outcome, Comes, status_of, text_of}
use Rattle.class_run.specs.Says.{Says}

-- an outcome that comes of the files is written
pub record EndsBySaying (c : Class) (before after : Devices) (s : ClassStatus) : Type 0 where
  pub outcome : Outcome
  pub comes : Comes c before.shelf after.shelf outcome
  pub says : Says (text_of c.files outcome) (status_of outcome) before.sink after.sink s

-- one of the four files wasn't read: no other fetch was made, and the shelf counted a fault
pub record ReadStops (f : ClassFiles) (before after : Devices) : Type 0 where
  pub rose : Rose before.shelf.faults after.shelf.faults
  pub calls : FetchesInOrder (files_of f) before.shelf after.shelf
  pub silent : IsSilent before.sink after.sink

-- The four files were read, without a fault. Behind them the first of those that the list names
-- were fetched, and the shelf counted a fault.
pub record FailsBehind (f : ClassFiles) (before after : ShelfState) : Type 0 where
  pub shared : Shared
  pub list : List ℕ
  pub names : List (List ℕ)
  pub read : ShelfState
  pub files : AreRead f shared list before read
  pub listed : Lists list names
  pub fetched : FetchesFirst names read after
  pub rose : Rose before.faults after.faults

-- no fetch of the four files failed
abbrev pub ReadsWell : ClassFiles → ShelfState → ShelfState → Type 0
ReadsWell f before after = ShelfStoodStill before after ⊎ FailsBehind f before after

-- memory lacked before anything was written
pub record EndsInSilence (f : ClassFiles) (before after : Devices) : Type 0 where
  pub well : ReadsWell f before.shelf after.shelf
  pub silent : IsSilent before.sink after.sink

-- What each status means, what stands in the output, and which device counted a fault: by `Says`
-- the sink did where the status is WriteFailed alone.
abbrev pub Ends : Class → Devices → Devices → ClassStatus → Type 0
Ends c before after status.Done = EndsBySaying c before after status.Done
Ends c before after status.Refused = EndsBySaying c before after status.Refused
Ends c before after status.ReadFailed = ReadStops c.files before after
Ends c before after status.WriteFailed = EndsBySaying c before after status.WriteFailed
Ends c before after status.NoMemory =
    EndsInSilence c.files before after ⊎ EndsBySaying c before after status.NoMemory
Ends c before after status.Usage = ⊥

-- all four files were fetched, and then the first of those that the list names
pub record GoesOn (f : ClassFiles) (before after : ShelfState) : Type 0 where
  pub list : List ℕ
  pub held : Holds before f.list list
  pub names : List (List ℕ)
  pub listed : Lists list names
  pub count : ℕ
  pub made : after.calls
      ≡ added before.calls (fetches (files_of f) ++ take count (map Fetch names))

-- the calls that were made are the first of the fetches of the four files and of the listed ones
abbrev pub CallsInOrder : ClassFiles → ShelfState → ShelfState → Type 0
CallsInOrder f before after = FetchesInOrder (files_of f) before after ⊎ GoesOn f before after
