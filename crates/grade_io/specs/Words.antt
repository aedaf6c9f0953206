-- The words of a command line, and of a refusal.
use Rattle.std.specs.Prelude.{◌≡◌, ℕ, List, [], ◌++◌, codes, drop, Result, Ok, Err}
use Rattle.std.specs.Fmt.{decimal}
use Rattle.std.specs.IoError.{error_kind}
use Rattle.std.specs.Vec.Iter.{into_iter_items}
use Rattle.std.specs.declared.alloc.Global.{Global}
use Rattle.std.specs.declared.io.Error.{Error}
use Rattle.std.specs.declared.io.ErrorKind.TheVariants as kind
use Rattle.std.specs.declared.string.String.{String}
use Rattle.std.specs.declared.vec.IntoIter.{IntoIter}

-- all words of a command line, the program's name first, or why they aren't had
abbrev pub AllWords : Type 0
AllWords = Result (IntoIter (String Global) Global) Error

-- the words behind the name; none where a word isn't UTF-8
abbrev pub words_in : AllWords → List (String Global)
words_in (Ok all) = drop 1 (into_iter_items all)
words_in (Err e) = []

-- memory for the words lacked
abbrev pub IsUnread : AllWords → Type 0
IsUnread (Ok all) = ⊥
IsUnread (Err e) = error_kind e ≡ kind.OutOfMemory

-- the line for a refusal of a file, by the word that names it
abbrev pub refusal_line : List ℕ → ℕ → List ℕ → List ℕ
refusal_line file line cause =
    codes "refused " ++ file ++ codes " line " ++ decimal line ++ codes ": " ++ cause ++ codes "\n"
