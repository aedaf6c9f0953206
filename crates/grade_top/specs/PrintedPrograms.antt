-- The program that is printed is the one that its text spells.
use Rattle.std.specs.Prelude.{ℕ, List, Option}
use Rattle.grade_io.specs.Devices.{Devices}
use Rattle.grade_io.specs.Written.{Wrote}
use Rattle.mpy_tree.specs.Printing.{program_text}
use Rattle.mpy_tree.specs.Syntax.{Routine}
use Rattle.mpy_parser.specs.Programs.{Reads}
use Rattle.mpy_round_trip.specs.RoundTrip.{AreSame}
use Rattle.input_space.specs.Agreement.{Failure}
use Rattle.input_space.specs.Tasks.{Task}
use Rattle.file_commands.specs.Commands.{Answered}
use Rattle.file_commands.specs.Ends.{ComesOfFiles}
use Rattle.feedback_text.specs.Answers.{Corrected, Edit}
use Rattle.feedback_text.specs.Reports.{report_of}
use Rattle.grade_core.specs.Commands.{Graded, IsGradedAs, grade_command}
use Rattle.grade_core.specs.Words.{GradeWords}

-- the text spells a program that is this one but for its lines, and no other
pub record SpellsAlone (text : List ℕ) (p : List Routine) : Type 0 where
  pub spelled : List Routine
  pub reads : Reads text spelled
  pub alone : (q : List Routine) → Reads text q → AreSame q p

abbrev pub correction : Task → ℕ → Failure → List Edit → List Routine → Option (List ℕ) → Graded
correction k cost fails edits p cert = record {
  task = k;
  answer = Corrected cost fails edits p;
  cert = cert;
}

-- the text of each program that a correction gives spells it alone
abbrev pub CorrectionsAreSpelled : Type 0
CorrectionsAreSpelled =
    (budget : ℕ) (ts : List (List ℕ)) (k : Task) (cost : ℕ) (fails : Failure)
    (edits : List Edit) (p : List Routine) (cert : Option (List ℕ))
    → IsGradedAs budget ts (correction k cost fails edits p cert)
    → SpellsAlone (program_text p) p

-- A correction that comes of the files was written, and nothing else: the text behind its line
-- `program` spells its program alone.
pub record PrintsCorrection (g : GradeWords) (before after : Devices) : Type 0 where
  pub task : Task
  pub cost : ℕ
  pub fails : Failure
  pub edits : List Edit
  pub program : List Routine
  pub cert : Option (List ℕ)
  pub comes : ComesOfFiles (grade_command g) before.shelf after.shelf
      (Answered (correction task cost fails edits program cert))
  pub wrote : Wrote before.sink after.sink (report_of task (Corrected cost fails edits program))
  pub spelled : SpellsAlone (program_text program) program
