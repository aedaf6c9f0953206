-- The command `check`: which files it reads, what their texts decide, and what is written of it.
use Rattle.std.specs.Prelude.{ℕ, List, [], ◌∷◌, None}
use Rattle.mpy_tree.specs.declared.refusal.Source.{Source}
use Rattle.mpy_tree.specs.declared.refusal.Source.TheVariants as source
use Rattle.mpy_tree.specs.Refusals.{refusal_text}
use Rattle.source_files.specs.Files.{SourceFile, file}
use Rattle.file_commands.specs.Commands.{FileCommand}
use Rattle.check_core.specs.Decisions.{Checked, IsCheckedAs, sources_step}
use Rattle.check_core.specs.Texts.{said_text, status_of}
use Rattle.check_core.specs.Words.{CheckWords}

abbrev pub files_of : CheckWords → List SourceFile
files_of w =
    file source.Bounds w.bounds ∷ file source.Reference w.reference
    ∷ file source.Submission w.submission ∷ file source.Rules w.rules
    ∷ file source.Cert w.cert ∷ []

-- the word that names a source, if it is a file of the command
abbrev pub word_of : CheckWords → Source → List ℕ
word_of w source.Bounds = w.bounds
word_of w source.Reference = w.reference
word_of w source.Submission = w.submission
word_of w source.Rules = w.rules
word_of w source.Cert = w.cert
word_of w (source.Word n) = []

abbrev pub check_command : CheckWords → FileCommand Checked
check_command w = record {
  files = files_of w;
  place = None;
  decides = IsCheckedAs;
  refuses = λ ts. (sources_step ts).refuses;
  kept = λ x. None;
  text = λ x. said_text x.said;
  status = λ x. status_of x.said;
  line = λ r. refusal_text (word_of w r.source) r;
}
