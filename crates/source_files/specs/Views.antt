-- The code's files and texts as the definitions see them.
use Rattle.std.specs.Prelude.{ℕ, List, Vec, map}
use Rattle.std.specs.declared.alloc.Global.{Global}
use Rattle.source_files.specs.declared.file.File.{File}
use Rattle.source_files.specs.Files.{SourceFile}

abbrev pub file_of : File → SourceFile
file_of f = record { source = f.source; word = f.word.now }

abbrev pub texts_of : List (Vec ℕ Global) → List (List ℕ)
texts_of vs = map (λ v. v.items) vs
