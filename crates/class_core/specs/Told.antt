-- What is told of what was found of a file.
use Rattle.std.specs.Prelude.{◌≡◌, ℕ, List, None, Result, Ok, Err}
use Rattle.grade_io.specs.declared.status.Status.TheVariants as status
use Rattle.source_files.specs.declared.stop.Stop.{Stop}
use Rattle.source_files.specs.declared.stop.Stop.TheVariants as stop
use Rattle.file_commands.specs.Reports.{bytes_of}
use Rattle.file_commands.specs.declared.report.Report.{Report}
use Rattle.grade_core.specs.Commands.{grade_command}
use Rattle.grade_core.specs.Words.{GradeWords}
use Rattle.class_text.specs.Entries.{Entry}
use Rattle.class_core.specs.Gradings.{told_certificate}

-- the entry has the status, the text and the certificate of a report
pub record TellsReport (r : Report) (x : Entry) : Type 0 where
  pub status_is : x.status ≡ r.status
  pub report_is : x.report ≡ r.text.items
  pub certificate_is : x.certificate ≡ told_certificate r.status (bytes_of r)

-- the entry is that of a refusal
pub record TellsRefusal (line : List ℕ) (x : Entry) : Type 0 where
  pub status_is : x.status ≡ status.Refused
  pub report_is : x.report ≡ line
  pub certificate_is : x.certificate ≡ None

-- a report or a refusal is told, and nothing else
abbrev pub TellsFound : GradeWords → Result Report Stop → Entry → Type 0
TellsFound g (Ok r) x = TellsReport r x
TellsFound g (Err (stop.Refused q)) x = TellsRefusal ((grade_command g).line q) x
TellsFound g (Err stop.Failed) x = ⊥
TellsFound g (Err stop.NoMemory) x = ⊥
