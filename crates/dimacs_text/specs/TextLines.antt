-- Texts as lines, and lines as words.
use Rattle.std.specs.Prelude.{ℕ, Bool, true, false, not, ◌==◌, ◌||◌, List, [], ◌∷◌, filter}
use Rattle.std.specs.Prelude.{if◌then◌else◌}

-- what stands between the words of a line, and what may stand there besides
abbrev pub is_blank : ℕ → Bool
is_blank c = (c == 32) || (c == 9)

abbrev pub is_space : ℕ → Bool
is_space c = is_blank c || (c == 13)

-- a byte before the first of some pieces
abbrev pub onto : ℕ → List (List ℕ) → List (List ℕ)
onto c [] = (c ∷ []) ∷ []
onto c (p ∷ ps) = (c ∷ p) ∷ ps

-- the lines of a text, the last of which may lack its end
abbrev pub lines_of : List ℕ → List (List ℕ)
lines_of [] = []
lines_of (c ∷ cs) = if c == 10 then [] ∷ lines_of cs else onto c (lines_of cs)

-- what stands between the spaces of a line
abbrev pub pieces : List ℕ → List (List ℕ)
pieces [] = [] ∷ []
pieces (c ∷ cs) = if is_space c then [] ∷ pieces cs else onto c (pieces cs)

abbrev pub is_some_word : List ℕ → Bool
is_some_word [] = false
is_some_word (c ∷ cs) = true

abbrev pub words_of : List ℕ → List (List ℕ)
words_of line = filter is_some_word (pieces line)

-- whether a line begins with a byte
abbrev pub begins : ℕ → List ℕ → Bool
begins b [] = false
begins b (c ∷ cs) = c == b
