-- The files that a command reads.
use Rattle.std.specs.Prelude.{ℕ, ◌==◌, if◌then◌else◌, List, map}
use Rattle.grade_io.specs.Devices.{ShelfCall, Fetch}
use Rattle.mpy_tree.specs.declared.refusal.Source.{Source}
use Rattle.mpy_tree.specs.declared.refusal.Source.TheVariants as source

-- how many bytes a source may have; what is named by a word's place alone is a formula where that
-- is the first word, and a program else
abbrev pub limit_of : Source → ℕ
limit_of source.Bounds = 65536
limit_of source.Reference = 65536
limit_of source.Submission = 65536
limit_of source.Rules = 65536
limit_of source.Cert = 1073741824
limit_of (source.Word n) = if n == 1 then 67108864 else 65536

-- a file: what it is to the command, and the word that names it
pub record SourceFile : Type 0 where
  pub source : Source
  pub word : List ℕ

abbrev pub file : Source → List ℕ → SourceFile
file s word = record { source = s; word = word }

-- what the files are to the command
abbrev pub sources_of : List SourceFile → List Source
sources_of fs = map (λ f. f.source) fs

-- the calls of a shelf that fetch the files
abbrev pub fetches : List SourceFile → List ShelfCall
fetches fs = map (λ f. Fetch f.word) fs
