-- What the texts of a command spell, and what comes of them, is one thing.
use Rattle.std.specs.Prelude.{◌≡◌, ℕ, List}
use Rattle.mpy_tree.specs.declared.outcome.Outcome as run
use Rattle.mpy_tree.specs.declared.refusal.Refusal.{Refusal}
use Rattle.input_space.specs.Tasks.{Task}
use Rattle.source_files.specs.Files.{sources_of}
use Rattle.source_files.specs.Texts.{AllFit}
use Rattle.file_commands.specs.Ends.{IsFirstRefusal}
use Rattle.grade_core.specs.Decisions.{task_step}
use Rattle.grade_top.specs.Commands.{AnswerOf, file_command, files_of}
use Rattle.grade_top.specs.Decisions.{run_step}
use Rattle.grade_top.specs.Words.{Command, RunWords}

-- the texts of `grade` spell one task at most
abbrev pub SpellOneTask : Type 0
SpellOneTask =
    (ts : List (List ℕ)) (k other : Task) → (task_step ts).gives k → (task_step ts).gives other
    → k ≡ other

-- the texts of `run` end in one way at most
abbrev pub RunOnce : Type 0
RunOnce =
    (w : RunWords) (ts : List (List ℕ)) (o other : run.Outcome)
    → (run_step w ts).gives o → (run_step w ts).gives other → o ≡ other

-- one refusal at most is the first
abbrev pub HaveOneRefusal : Type 0
HaveOneRefusal =
    (c : Command) (ts : List (List ℕ)) (r other : Refusal)
    → IsFirstRefusal (file_command c) ts r → IsFirstRefusal (file_command c) ts other → r ≡ other

-- no texts are both refused and answered
abbrev pub NotRefusedAndDecided : Type 0
NotRefusedAndDecided =
    (c : Command) (ts : List (List ℕ)) (r : Refusal) (a : AnswerOf c)
    → IsFirstRefusal (file_command c) ts r → AllFit (sources_of (files_of c)) ts
    → (file_command c).decides ts a → ⊥
