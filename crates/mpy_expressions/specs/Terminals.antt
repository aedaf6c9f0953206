-- What the grammar sees of tokens.
use Rattle.std.specs.Prelude.{ℕ, Bool, false, not, ◌&&◌, ◌||◌, ◌==◌, nat_eq, List, [], ◌∷◌}
use Rattle.std.specs.Prelude.{map, length, Option, Some, None, if◌then◌else◌, codes}
use Rattle.std.specs.Char.{is_ascii_digit}
use Rattle.std.specs.Cmp.Lexicographic.{pointwise}
use Rattle.std.specs.List.{list_all}
use Rattle.mpy_lexer.specs.declared.forms.Kind.{Kind}
use Rattle.mpy_lexer.specs.declared.forms.Kind.TheVariants as kind
use Rattle.mpy_lexer.specs.declared.token.Token.{Token}
use Rattle.mpy_lexer.specs.Pieces.{number_of}
use Rattle.mpy_lexer.specs.TextLiterals.{literal_characters}
use Rattle.mpy_expressions.specs.declared.words.Word.{Word}
use Rattle.mpy_expressions.specs.declared.words.Word.TheVariants as word
use Rattle.mpy_expressions.specs.declared.terminals.Terminal.{Terminal}
use Rattle.mpy_expressions.specs.declared.terminals.Terminal.TheVariants as terminal

-- the marks and reserved words of the grammar
abbrev pub words : List (List ℕ × Word)
words =
    (codes "(", word.LeftParen) ∷ (codes ")", word.RightParen)
    ∷ (codes "[", word.LeftBracket) ∷ (codes "]", word.RightBracket)
    ∷ (codes ":", word.Colon) ∷ (codes ",", word.Comma) ∷ (codes ".", word.Dot)
    ∷ (codes "=", word.Assign)
    ∷ (codes "==", word.Equal) ∷ (codes "!=", word.NotEqual) ∷ (codes "<", word.Less)
    ∷ (codes "<=", word.LessEqual) ∷ (codes ">", word.Greater) ∷ (codes ">=", word.GreaterEqual)
    ∷ (codes "+", word.Plus) ∷ (codes "-", word.Minus) ∷ (codes "*", word.Star)
    ∷ (codes "//", word.DoubleSlash) ∷ (codes "%", word.Percent) ∷ (codes "**", word.DoubleStar)
    ∷ (codes "+=", word.PlusAssign) ∷ (codes "-=", word.MinusAssign)
    ∷ (codes "*=", word.StarAssign) ∷ (codes "//=", word.DoubleSlashAssign)
    ∷ (codes "%=", word.PercentAssign)
    ∷ (codes "and", word.And) ∷ (codes "break", word.Break) ∷ (codes "continue", word.Continue)
    ∷ (codes "def", word.Def) ∷ (codes "elif", word.Elif) ∷ (codes "else", word.Else)
    ∷ (codes "False", word.False) ∷ (codes "for", word.For) ∷ (codes "if", word.If)
    ∷ (codes "in", word.In) ∷ (codes "not", word.Not) ∷ (codes "or", word.Or)
    ∷ (codes "pass", word.Pass) ∷ (codes "return", word.Return) ∷ (codes "True", word.True)
    ∷ (codes "while", word.While) ∷ []

-- the word that the bytes spell, among some
abbrev pub word_among : List (List ℕ × Word) → List ℕ → Option Word
word_among [] bytes = None
word_among (e ∷ es) bytes = if pointwise nat_eq e.0 bytes then Some e.1 else word_among es bytes

unfoldable pub word_of : List ℕ → Option Word
word_of bytes = word_among words bytes

abbrev pub word_terminal : Option Word → Terminal Unit
word_terminal None = terminal.Other
word_terminal (Some w) = terminal.Word w

-- digits that don't begin with 0, or 0 alone
abbrev pub is_numeral : List ℕ → Bool
is_numeral [] = false
is_numeral (c ∷ rest) = list_all is_ascii_digit (c ∷ rest) && (not (c == 48) || length rest == 0)

abbrev pub number_terminal_of : Option ℕ → Terminal Unit
number_terminal_of None = terminal.Other
number_terminal_of (Some n) = terminal.Number n

abbrev pub number_terminal : List ℕ → Terminal Unit
number_terminal digits =
    if is_numeral digits then number_terminal_of (number_of digits) else terminal.Other

abbrev pub text_terminal_of : Option (List ℕ) → Terminal Unit
text_terminal_of None = terminal.Other
text_terminal_of (Some cs) = terminal.Text cs

-- a literal in single or double quotes
abbrev pub text_terminal : List ℕ → Terminal Unit
text_terminal bytes = text_terminal_of (literal_characters bytes)

abbrev pub terminal_by : Kind → List ℕ → Terminal Unit
terminal_by kind.Name text = terminal.Name text
terminal_by kind.Reserved text = word_terminal (word_of text)
terminal_by kind.Number text = number_terminal text
terminal_by kind.Text text = text_terminal text
terminal_by kind.Mark text = word_terminal (word_of text)
terminal_by kind.Meta text = terminal.Other

abbrev pub terminal_of : Token → Terminal Unit
terminal_of t = terminal_by t.kind t.text

abbrev pub terminals : List Token → List (Terminal Unit)
terminals ts = map terminal_of ts
