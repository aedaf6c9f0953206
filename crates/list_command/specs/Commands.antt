-- The command `all`: which files it reads, what their texts decide, and what is written of it.
use Rattle.std.specs.Prelude.{ℕ, List, [], ◌∷◌, None}
use Rattle.mpy_tree.specs.declared.refusal.Source.{Source}
use Rattle.mpy_tree.specs.declared.refusal.Source.TheVariants as source
use Rattle.mpy_tree.specs.Refusals.{refusal_text}
use Rattle.source_files.specs.Files.{SourceFile, file}
use Rattle.file_commands.specs.Commands.{FileCommand}
use Rattle.grade_core.specs.Decisions.{task_step}
use Rattle.list_command.specs.Decisions.{AllAnswer, all_decides}
use Rattle.list_command.specs.Texts.{all_status, all_text}
use Rattle.list_command.specs.Words.{AllWords}

abbrev pub all_files : AllWords → List SourceFile
all_files w =
    file source.Bounds w.bounds ∷ file source.Reference w.reference
    ∷ file source.Submission w.submission ∷ file source.Rules w.rules ∷ []

-- the word that names a source, if it is a file of the command
abbrev pub all_word : AllWords → Source → List ℕ
all_word w source.Bounds = w.bounds
all_word w source.Reference = w.reference
all_word w source.Submission = w.submission
all_word w source.Rules = w.rules
all_word w source.Cert = []
all_word w (source.Word n) = []

-- nothing is stored
abbrev pub all_command : AllWords → FileCommand AllAnswer
all_command w = record {
  files = all_files w;
  place = None;
  decides = all_decides w;
  refuses = λ ts. (task_step ts).refuses;
  kept = λ a. None;
  text = all_text w;
  status = all_status;
  line = λ r. refusal_text (all_word w r.source) r;
}
