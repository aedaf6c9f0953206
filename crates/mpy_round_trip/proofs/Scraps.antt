-- Printed lines, cut into tokens and spaces: what lies between the text of a program and its tokens.
use Rattle.std.specs.Prelude.{◌≡◌, ℕ, ◌+◌, ◌*◌, Bool, true, false, not, ◌||◌, ◌==◌, List, [], ◌∷◌, ◌++◌, length, map}
use Rattle.std.specs.List.{flat_map, list_all}
use Rattle.mpy_tree.specs.Printing.{indented}
use Rattle.mpy_lexer.specs.declared.forms.Form.TheVariants.{Program}
use Rattle.mpy_lexer.specs.declared.forms.Kind.{Kind}
use Rattle.mpy_lexer.specs.declared.forms.Kind.TheVariants.{Name, Reserved, Number, Text, Mark, Meta}
use Rattle.mpy_lexer.specs.declared.token.Token.{Token}
use Rattle.mpy_lexer.specs.declared.line.Line.{Line}
use Rattle.mpy_lexer.specs.Bytes.{is_name_byte}
use Rattle.mpy_lexer.specs.Words.{mark_len}
use Rattle.mpy_lexer.specs.Brackets.{first_of_mark, is_closing, closes, open_behind}
use Rattle.mpy_lexer.specs.TokenForms.{has_form}
use Rattle.mpy_lexer.specs.TextLiterals.{is_printable}

-- the type of a value, where no name of it can be cited here
abbrev pub type_of : {A : Type 0} → A → Type 0
type_of {A} x = A

-- open brackets, the innermost first
abbrev pub Brackets : Type 0
Brackets = type_of (open_behind 0 [] 0)

-- one space, or a token with its bytes
pub data Scrap : Type 0 where
  gap : Scrap
  word : (k : Kind) (bytes : List ℕ) → Scrap

abbrev pub bytes_of : List Scrap → List ℕ
bytes_of [] = []
bytes_of (gap ∷ ss) = 32 ∷ bytes_of ss
bytes_of (word k bytes ∷ ss) = bytes ++ bytes_of ss

-- the byte behind: a line ends with byte 10
abbrev pub next_byte : List Scrap → ℕ
next_byte [] = 10
next_byte (gap ∷ ss) = 32
next_byte (word k [] ∷ ss) = next_byte ss
next_byte (word k (c ∷ bytes) ∷ ss) = c

-- a token isn't read longer where this byte follows
abbrev pub ends_before : Kind → List ℕ → ℕ → Bool
ends_before Name bytes c = not (is_name_byte c)
ends_before Reserved bytes c = not (is_name_byte c)
ends_before Number bytes c = not (is_name_byte c || c == 46)
ends_before Text bytes c = true
ends_before Mark bytes c = mark_len Program (bytes ++ c ∷ []) == length bytes
ends_before Meta bytes c = false

-- each token has the form of its kind, printable bytes, and ends where the next scrap begins
abbrev pub AreApart : List Scrap → Type 0
AreApart [] = Unit {0}
AreApart (gap ∷ ss) = AreApart ss
AreApart (word k bytes ∷ ss) = (has_form Program k bytes ≡ true) × (list_all is_printable bytes ≡ true) × (ends_before k bytes (next_byte ss) ≡ true) × AreApart ss

-- the brackets that are open behind the scraps
abbrev pub open_behind_all : ℕ → Brackets → List Scrap → Brackets
open_behind_all line opened [] = opened
open_behind_all line opened (gap ∷ ss) = open_behind_all line opened ss
open_behind_all line opened (word k bytes ∷ ss) = open_behind_all line (open_behind line opened (first_of_mark k bytes)) ss

-- each closing bracket closes one
abbrev pub AreMatched : ℕ → Brackets → List Scrap → Type 0
AreMatched line opened [] = Unit {0}
AreMatched line opened (gap ∷ ss) = AreMatched line opened ss
AreMatched line opened (word k bytes ∷ ss) = (not (is_closing (first_of_mark k bytes)) || closes opened (first_of_mark k bytes) ≡ true) × AreMatched line (open_behind line opened (first_of_mark k bytes)) ss

-- brackets open and close among the scraps, whatever is open before
pub record AreBalanced (ss : List Scrap) : Type 0 where
  pub same : (line : ℕ) (opened : Brackets) → open_behind_all line opened ss ≡ opened
  pub matched : (line : ℕ) (opened : Brackets) → AreMatched line opened ss

-- a line of the text: so many blocks deep
pub record Printed : Type 0 where
  pub depth : ℕ
  pub scraps : List Scrap

-- a line begins with a token, or is empty
pub data Begins : ℕ → List Scrap → Type 0 where
  empty : Begins 0 []
  token : (d : ℕ) (k : Kind) (bytes : List ℕ) (ss : List Scrap) → Begins d (word k bytes ∷ ss)

pub record IsFine (p : Printed) : Type 0 where
  pub begins : Begins p.depth p.scraps
  pub apart : AreApart p.scraps
  pub balanced : AreBalanced p.scraps

abbrev pub line_text : Printed → List ℕ
line_text p = indented p.depth (bytes_of p.scraps)

abbrev pub text_of_lines : List Printed → List ℕ
text_of_lines ps = flat_map line_text ps

-- what a token is but for its place
abbrev pub scrap_of : Token → Scrap
scrap_of t = word t.kind t.text

abbrev pub words_in : List Scrap → List Scrap
words_in [] = []
words_in (gap ∷ ss) = words_in ss
words_in (word k bytes ∷ ss) = word k bytes ∷ words_in ss

-- the logical line that a printed line is
pub record IsLineOf (number : ℕ) (p : Printed) (l : Line) : Type 0 where
  pub line : l.line ≡ number
  pub column : l.column ≡ 4 * p.depth
  pub tokens : map scrap_of l.tokens ≡ words_in p.scraps

-- each printed line that isn't empty is a logical line, by its number
pub data AreLinesOf : ℕ → List Printed → List Line → Type 0 where
  no_lines : {n : ℕ} → AreLinesOf n [] []
  an_empty_line : {n d : ℕ} {ps : List Printed} {ls : List Line} → AreLinesOf (n + 1) ps ls → AreLinesOf n (record { depth = d; scraps = [] } ∷ ps) ls
  a_line : {n d : ℕ} {s : Scrap} {ss : List Scrap} {ps : List Printed} {l : Line} {ls : List Line} → IsLineOf n (record { depth = d; scraps = s ∷ ss }) l → AreLinesOf (n + 1) ps ls → AreLinesOf n (record { depth = d; scraps = s ∷ ss } ∷ ps) (l ∷ ls)
