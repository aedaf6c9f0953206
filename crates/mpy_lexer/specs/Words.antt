-- The words that are no names, and the marks.
use Rattle.std.specs.Prelude.{ℕ, Bool, List, [], ◌∷◌, length, nat_eq, if◌then◌else◌, codes}
use Rattle.std.specs.Cmp.Lexicographic.{pointwise}
use Rattle.std.specs.List.{list_any, starts_with}
use Rattle.mpy_lexer.specs.declared.forms.Form.{Form}
use Rattle.mpy_lexer.specs.declared.forms.Form.TheVariants.{Program, Rules}

abbrev pub reserved_words : List (List ℕ)
reserved_words =
    codes "and" ∷ codes "as" ∷ codes "assert" ∷ codes "async" ∷ codes "await" ∷ codes "break"
    ∷ codes "class" ∷ codes "continue" ∷ codes "def" ∷ codes "del" ∷ codes "elif" ∷ codes "else"
    ∷ codes "except" ∷ codes "finally" ∷ codes "for" ∷ codes "from" ∷ codes "global" ∷ codes "if"
    ∷ codes "import" ∷ codes "in" ∷ codes "is" ∷ codes "lambda" ∷ codes "None" ∷ codes "nonlocal"
    ∷ codes "not" ∷ codes "or" ∷ codes "pass" ∷ codes "raise" ∷ codes "return" ∷ codes "True"
    ∷ codes "False" ∷ codes "try" ∷ codes "while" ∷ codes "with" ∷ codes "yield" ∷ []

unfoldable pub is_reserved : List ℕ → Bool
is_reserved word = list_any (pointwise nat_eq word) reserved_words

-- the marks of programs, the longer ones first
abbrev pub program_marks : List (List ℕ)
program_marks =
    codes "//=" ∷ codes "==" ∷ codes "!=" ∷ codes "<=" ∷ codes ">=" ∷ codes "//" ∷ codes "**"
    ∷ codes "+=" ∷ codes "-=" ∷ codes "*=" ∷ codes "%=" ∷ codes "(" ∷ codes ")" ∷ codes "["
    ∷ codes "]" ∷ codes ":" ∷ codes "," ∷ codes "." ∷ codes "=" ∷ codes "<" ∷ codes ">" ∷ codes "+"
    ∷ codes "-" ∷ codes "*" ∷ codes "%" ∷ []

-- those of rules: four more
abbrev pub rule_marks : List (List ℕ)
rule_marks =
    codes "//=" ∷ codes "=>" ∷ codes "==" ∷ codes "!=" ∷ codes "<=" ∷ codes ">=" ∷ codes "//"
    ∷ codes "**" ∷ codes "+=" ∷ codes "-=" ∷ codes "*=" ∷ codes "%=" ∷ codes "(" ∷ codes ")"
    ∷ codes "[" ∷ codes "]" ∷ codes ":" ∷ codes "," ∷ codes "." ∷ codes "=" ∷ codes "<" ∷ codes ">"
    ∷ codes "+" ∷ codes "-" ∷ codes "*" ∷ codes "%" ∷ codes "?" ∷ codes "{" ∷ codes "}" ∷ []

abbrev pub marks : Form → List (List ℕ)
marks Program = program_marks
marks Rules = rule_marks

-- how long the first of these words is that stands at the front of the text; 0 where none does
abbrev pub first_len : List (List ℕ) → List ℕ → ℕ
first_len [] text = 0
first_len (w ∷ ws) text = if starts_with nat_eq text w then length w else first_len ws text

-- how long the longest mark is at the front of the text; 0 where there is none
unfoldable pub mark_len : Form → List ℕ → ℕ
mark_len form text = first_len (marks form) text
