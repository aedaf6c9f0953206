-- The commands: which files each reads, what their texts decide, and what is written of it.
use Rattle.std.specs.Prelude.{ℕ, List, [], ◌∷◌, None, codes}
use Rattle.grade_io.specs.declared.status.Status.TheVariants as status
use Rattle.mpy_tree.specs.declared.outcome.Outcome as run
use Rattle.mpy_tree.specs.declared.refusal.Source.{Source}
use Rattle.mpy_tree.specs.declared.refusal.Source.TheVariants as source
use Rattle.mpy_tree.specs.declared.refusal.Refusal.{Refusal}
use Rattle.mpy_tree.specs.Refusals.{refusal_text}
use Rattle.source_files.specs.Files.{SourceFile, file}
use Rattle.file_commands.specs.Commands.{FileCommand}
use Rattle.check_core.specs.Commands.{check_command}
use Rattle.check_core.specs.Decisions.{Checked}
use Rattle.formula_commands.specs.Commands.{sat_command, unsat_command}
use Rattle.formula_commands.specs.Decisions.{SatAnswer, UnsatAnswer}
use Rattle.grade_core.specs.Commands.{Graded, IsGradedAs, grade_command, status_of}
use Rattle.grade_core.specs.Decisions.{task_step}
use Rattle.list_command.specs.Commands.{all_command}
use Rattle.list_command.specs.Decisions.{AllAnswer}
use Rattle.pick_command.specs.Commands.{pick_command}
use Rattle.pick_command.specs.Decisions.{PickAnswer}
use Rattle.grade_top.specs.Decisions.{run_step, sample_texts}
use Rattle.grade_top.specs.Reports.{run_text, sample_report, usage_text, value_refusal_text}
use Rattle.grade_top.specs.Words.{Command, Grade, Check, Run, Sample, All, Pick, Sat, Unsat}
use Rattle.grade_top.specs.Words.{Nothing, RunWords}

-- the program of `run` stands in the place of a reference
abbrev pub run_files : RunWords → List SourceFile
run_files w = file source.Bounds w.bounds ∷ file source.Reference w.program ∷ []

-- the word that names a source, if it is a file of the command
abbrev pub run_word : RunWords → Source → List ℕ
run_word w source.Bounds = w.bounds
run_word w source.Reference = w.program
run_word w source.Submission = []
run_word w source.Rules = []
run_word w source.Cert = []
run_word w (source.Word n) = []

-- the line of a refusal of `run`: of a file by its word, of a value by its number
abbrev pub run_line : RunWords → Source → Refusal → List ℕ
run_line w (source.Word n) r = value_refusal_text n r.cause
run_line w source.Bounds r = refusal_text (run_word w source.Bounds) r
run_line w source.Reference r = refusal_text (run_word w source.Reference) r
run_line w source.Submission r = refusal_text (run_word w source.Submission) r
run_line w source.Rules r = refusal_text (run_word w source.Rules) r
run_line w source.Cert r = refusal_text (run_word w source.Cert) r

abbrev pub run_command : RunWords → FileCommand run.Outcome
run_command w = record {
  files = run_files w;
  place = None;
  decides = λ ts. (run_step w ts).gives;
  refuses = λ ts. (run_step w ts).refuses;
  kept = λ o. None;
  text = run_text;
  status = λ o. status.Correct;
  line = λ r. run_line w r.source r;
}

-- a source of a sample is no file
abbrev pub sample_word : Source → List ℕ
sample_word source.Bounds = codes "bounds"
sample_word source.Reference = codes "reference"
sample_word source.Submission = codes "submission"
sample_word source.Rules = codes "rules"
sample_word source.Cert = []
sample_word (source.Word n) = []

-- the budget by which a sample is graded
abbrev pub sample_budget : ℕ
sample_budget = 200000

-- a sample has its own texts, and of an answer a summary is written
abbrev pub sample_command : ℕ → FileCommand Graded
sample_command n = record {
  files = [];
  place = None;
  decides = λ ts. IsGradedAs sample_budget (sample_texts n);
  refuses = λ ts. (task_step (sample_texts n)).refuses;
  kept = λ x. None;
  text = λ x. sample_report n x.task x.answer x.cert;
  status = λ x. status_of x.answer;
  line = λ r. refusal_text (sample_word r.source) r;
}

-- words that ask for nothing get the usage
abbrev pub usage_command : FileCommand Unit
usage_command = record {
  files = [];
  place = None;
  decides = λ ts a. Unit {0};
  refuses = λ ts r. ⊥;
  kept = λ a. None;
  text = λ a. usage_text;
  status = λ a. status.Usage;
  line = λ r. [];
}

-- what a command answers: a task with an answer to it, or with what is said of a certificate; the
-- outcome of a run; what is listed of a task; cases and marks; or what is found of a formula, or
-- of a proof
abbrev pub AnswerOf : Command → Type 0
AnswerOf (Grade g) = Graded
AnswerOf (Check w) = Checked
AnswerOf (Run w) = run.Outcome
AnswerOf (Sample n) = Graded
AnswerOf (All w) = AllAnswer
AnswerOf (Pick w) = PickAnswer
AnswerOf (Sat w) = SatAnswer
AnswerOf (Unsat w) = UnsatAnswer
AnswerOf Nothing = Unit {0}

abbrev pub file_command : (c : Command) → FileCommand (AnswerOf c)
file_command (Grade g) = grade_command g
file_command (Check w) = check_command w
file_command (Run w) = run_command w
file_command (Sample n) = sample_command n
file_command (All w) = all_command w
file_command (Pick w) = pick_command w
file_command (Sat w) = sat_command w
file_command (Unsat w) = unsat_command w
file_command Nothing = usage_command

abbrev pub files_of : Command → List SourceFile
files_of c = (file_command c).files

-- the line of a refusal
abbrev pub line_of : Command → Refusal → List ℕ
line_of c = (file_command c).line
