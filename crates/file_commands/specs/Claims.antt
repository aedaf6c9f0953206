-- What follows from how a command ends, in the words of a reader.
use Rattle.std.specs.Prelude.{◌≡◌, List, ℕ}
use Rattle.grade_io.specs.Devices.{Devices, SinkState, Rose}
use Rattle.grade_io.specs.Written.{Wrote}
use Rattle.grade_io.specs.declared.status.Status.{Status}
use Rattle.grade_io.specs.declared.status.Status.TheVariants as status
use Rattle.source_files.specs.Files.{SourceFile, sources_of}
use Rattle.source_files.specs.Texts.{AllFit, Tells}

-- no count of faults rose
pub record NoFault (before after : Devices) : Type 0 where
  pub shelf : Rose before.shelf.faults after.shelf.faults → ⊥
  pub sink : Rose before.sink.faults after.sink.faults → ⊥

-- the texts of the files are told and fit
pub record AreTold (before : Devices) (fs : List SourceFile) (ts : List (List ℕ)) : Type 0 where
  pub tells : Tells before.shelf fs ts
  pub fit : AllFit (sources_of fs) ts

-- this text is written whole, with its status, and nothing else; want of memory stays possible
abbrev pub IsSaid : List ℕ → Status → SinkState → SinkState → Status → Type 0
IsSaid text t before after status.NoMemory = Unit {0}
IsSaid text t before after s = (s ≡ t) × Wrote before after text
