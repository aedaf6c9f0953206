-- The command `pick`: which files it reads, what their texts decide, and what is written of it.
use Rattle.std.specs.Prelude.{ℕ, suc, ◌-◌, List, [], ◌∷◌, None, slice_get, unwrap_or}
use Rattle.grade_io.specs.declared.status.Status.TheVariants as status
use Rattle.mpy_tree.specs.declared.refusal.Source.{Source}
use Rattle.mpy_tree.specs.declared.refusal.Source.TheVariants as source
use Rattle.mpy_tree.specs.Refusals.{refusal_text}
use Rattle.source_files.specs.Files.{SourceFile, file}
use Rattle.file_commands.specs.Commands.{FileCommand}
use Rattle.pick_command.specs.Decisions.{IsPickedFor, PickAnswer, first_place, pick_step}
use Rattle.pick_command.specs.Texts.{pick_text}
use Rattle.pick_command.specs.Words.{PickWords}

-- the files of submissions, from the one of a place on
abbrev pub submission_files : ℕ → List (List ℕ) → List SourceFile
submission_files n [] = []
submission_files n (word ∷ words) =
    file (source.Word n) word ∷ submission_files (suc n) words

abbrev pub pick_files : PickWords → List SourceFile
pick_files w =
    file source.Bounds w.bounds ∷ file source.Reference w.reference
    ∷ submission_files first_place w.submissions

-- the word that names a source
abbrev pub pick_word : PickWords → Source → List ℕ
pick_word w source.Bounds = w.bounds
pick_word w source.Reference = w.reference
pick_word w (source.Word n) = unwrap_or (slice_get w.submissions (n - first_place)) []
pick_word w source.Submission = []
pick_word w source.Rules = []
pick_word w source.Cert = []

abbrev pub pick_command : PickWords → FileCommand PickAnswer
pick_command w = record {
  files = pick_files w;
  place = None;
  decides = IsPickedFor;
  refuses = λ ts. (pick_step ts).refuses;
  kept = λ a. None;
  text = pick_text w;
  status = λ a. status.Correct;
  line = λ r. refusal_text (pick_word w r.source) r;
}
