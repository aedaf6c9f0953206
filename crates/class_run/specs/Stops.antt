-- Why no entries are had, and what is written then.
use Rattle.std.specs.Prelude.{◌≡◌, Result, Ok, Err, Vec, map}
use Rattle.std.specs.declared.alloc.Global.{Global}
use Rattle.grade_io.specs.Devices.{ShelfState, SinkState, Rose}
use Rattle.source_files.specs.Fetches.{FetchesInOrder}
use Rattle.source_files.specs.declared.stop.Stop.{Stop}
use Rattle.source_files.specs.declared.stop.Stop.TheVariants as stop
use Rattle.class_text.specs.declared.entry.Entry as code
use Rattle.class_text.specs.declared.listing.ListFault.{ListFault}
use Rattle.class_text.specs.declared.listing.ListFault.TheVariants as fault
use Rattle.class_text.specs.EntryViews.{entry_of}
use Rattle.class_run.specs.declared.status.ClassStatus.{ClassStatus}
use Rattle.class_run.specs.declared.status.ClassStatus.TheVariants as status
use Rattle.class_run.specs.declared.stop.ClassStop.{ClassStop}
use Rattle.class_run.specs.declared.stop.ClassStop.TheVariants as class
use Rattle.class_run.specs.Classes.{Class, ClassFiles, files_of}
use Rattle.class_run.specs.Ends.{ReadsWell}
use Rattle.class_run.specs.Outcomes.{Graded, LongFile, NoList, Comes, text_of}
use Rattle.class_run.specs.Says.{Says}

abbrev pub Found : Type 0
Found = Result (Vec code.Entry Global) ClassStop

-- what stops the fetches of the four files, and the reading of the list
abbrev pub stop_of : Stop → ClassStop
stop_of (stop.Refused r) = class.LongFile r
stop_of stop.Failed = class.Failed
stop_of stop.NoMemory = class.NoMemory

abbrev pub fault_of : ListFault → ClassStop
fault_of (fault.Line line) = class.NoList line
fault_of fault.NoMemory = class.NoMemory

-- one of the four files wasn't read
pub record IsUnreadFile (f : ClassFiles) (before after : ShelfState) : Type 0 where
  pub rose : Rose before.faults after.faults
  pub calls : FetchesInOrder (files_of f) before after

-- What is found comes of the files. Where memory lacked no fetch of the four files had failed.
abbrev pub IsFound : Class → Found → ShelfState → ShelfState → Type 0
IsFound c (Ok v) before after = Comes c before after (Graded (map entry_of v.items))
IsFound c (Err (class.LongFile r)) before after = Comes c before after (LongFile r)
IsFound c (Err (class.NoList line)) before after = Comes c before after (NoList line)
IsFound c (Err class.Failed) before after = IsUnreadFile c.files before after
IsFound c (Err class.NoMemory) before after = ReadsWell c.files before after

-- what is found is written, and nothing where a fetch failed or memory lacked
abbrev pub IsTold : ClassFiles → Found → SinkState → SinkState → ClassStatus → Type 0
IsTold f (Ok v) before after s =
    Says (text_of f (Graded (map entry_of v.items))) status.Done before after s
IsTold f (Err (class.LongFile r)) before after s =
    Says (text_of f (LongFile r)) status.Refused before after s
IsTold f (Err (class.NoList line)) before after s =
    Says (text_of f (NoList line)) status.Refused before after s
IsTold f (Err class.Failed) before after s = (s ≡ status.ReadFailed) × (after ≡ before)
IsTold f (Err class.NoMemory) before after s = (s ≡ status.NoMemory) × (after ≡ before)
