-- The commands `sat` and `unsat`: which files each reads, what their texts decide, and what is
-- written and stored of it.
use Rattle.std.specs.Prelude.{ℕ, List, [], ◌∷◌, None, Some}
use Rattle.mpy_tree.specs.declared.refusal.Source.{Source}
use Rattle.mpy_tree.specs.declared.refusal.Source.TheVariants as source
use Rattle.mpy_tree.specs.Refusals.{refusal_text}
use Rattle.source_files.specs.Files.{SourceFile, file}
use Rattle.file_commands.specs.Commands.{FileCommand}
use Rattle.formula_commands.specs.Decisions.{SatAnswer, UnsatAnswer, sat_decides, unsat_decides}
use Rattle.formula_commands.specs.Texts.{sat_kept, sat_status, sat_text, unsat_status, unsat_text}
use Rattle.formula_commands.specs.Words.{SatWords, UnsatWords}

-- a formula is the file that the first word names
abbrev pub formula_source : Source
formula_source = source.Word 1

abbrev pub sat_sources : List Source
sat_sources = formula_source ∷ []

abbrev pub sat_files : SatWords → List SourceFile
sat_files w = file formula_source w.cnf ∷ []

-- No text is refused by what it says: that it isn't of its form is an answer.
abbrev pub sat_command : SatWords → FileCommand SatAnswer
sat_command w = record {
  files = sat_files w;
  place = Some w.log;
  decides = sat_decides w.budget;
  refuses = λ ts r. ⊥;
  kept = sat_kept;
  text = sat_text w;
  status = sat_status;
  line = λ r. refusal_text w.cnf r;
}

abbrev pub unsat_sources : List Source
unsat_sources = formula_source ∷ source.Cert ∷ []

abbrev pub unsat_files : UnsatWords → List SourceFile
unsat_files w = file formula_source w.cnf ∷ file source.Cert w.log ∷ []

-- the word that names a source: the proof, or else the formula
abbrev pub unsat_word : UnsatWords → Source → List ℕ
unsat_word w source.Bounds = w.cnf
unsat_word w source.Reference = w.cnf
unsat_word w source.Submission = w.cnf
unsat_word w source.Rules = w.cnf
unsat_word w source.Cert = w.log
unsat_word w (source.Word n) = w.cnf

abbrev pub unsat_command : UnsatWords → FileCommand UnsatAnswer
unsat_command w = record {
  files = unsat_files w;
  place = None;
  decides = unsat_decides;
  refuses = λ ts r. ⊥;
  kept = λ a. None;
  text = unsat_text w;
  status = unsat_status;
  line = λ r. refusal_text (unsat_word w r.source) r;
}
