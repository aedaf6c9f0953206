-- What follows from how a class ends, in the words of a reader.
use Rattle.std.specs.Prelude.{◌≡◌, ℕ, List}
use Rattle.grade_io.specs.Devices.{Devices, ShelfState, Rose}
use Rattle.grade_io.specs.Written.{Wrote}
use Rattle.source_files.specs.Files.{sources_of}
use Rattle.source_files.specs.Texts.{AllFit, Tells}
use Rattle.class_text.specs.Entries.{Entry}
use Rattle.class_text.specs.Reports.{class_text}
use Rattle.class_run.specs.declared.status.ClassStatus.{ClassStatus}
use Rattle.class_run.specs.declared.status.ClassStatus.TheVariants as status
use Rattle.class_run.specs.Classes.{Class, ClassFiles, Shared, files_of, texts_with}
use Rattle.class_run.specs.Listed.{AreEntries}

-- the texts of the four files are told, and fit
pub record AreTold (f : ClassFiles) (shelf : ShelfState) (t : Shared) (list : List ℕ) : Type 0 where
  pub tells : Tells shelf (files_of f) (texts_with t list)
  pub fit : AllFit (sources_of (files_of f)) (texts_with t list)

-- This text is written whole, with its status. A fetch of the four files or a put may fail, which
-- is counted, and memory may lack.
abbrev pub IsSaid : List ℕ → ClassStatus → Devices → Devices → ClassStatus → Type 0
IsSaid text t before after status.ReadFailed = Rose before.shelf.faults after.shelf.faults
IsSaid text t before after status.WriteFailed = Rose before.sink.faults after.sink.faults
IsSaid text t before after status.NoMemory = Unit {0}
IsSaid text t before after s = (s ≡ t) × Wrote before.sink after.sink text

-- one entry for each of the names is written
pub record HasEntries (c : Class) (t : Shared) (names : List (List ℕ)) (before after : Devices)
    : Type 0 where
  pub entries : List Entry
  pub read : ShelfState
  pub told : AreEntries c t before.shelf names entries read after.shelf
  pub wrote : Wrote before.sink after.sink (class_text entries)

-- The same, unless a fetch of the four files or a put failed or memory lacked.
abbrev pub IsDone : Class → Shared → List (List ℕ) → Devices → Devices → ClassStatus → Type 0
IsDone c t names before after status.Done = HasEntries c t names before after
IsDone c t names before after status.Refused = ⊥
IsDone c t names before after status.ReadFailed = Rose before.shelf.faults after.shelf.faults
IsDone c t names before after status.WriteFailed = Rose before.sink.faults after.sink.faults
IsDone c t names before after status.NoMemory = Unit {0}
IsDone c t names before after status.Usage = ⊥
