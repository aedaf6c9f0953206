-- The law of tokens: with what stands between them they are the whole text, each the longest form
-- at its place.
use Rattle.std.specs.Prelude.{◌≡◌, ℕ, ◌+◌, ◌<◌, ◌≤◌, Bool, true, false, not, ◌&&◌, ◌||◌, ◌==◌}
use Rattle.std.specs.Prelude.{List, [], ◌∷◌, ◌++◌, length, take, drop, Ok}
use Rattle.std.specs.List.{flat_map}
use Rattle.mpy_lexer.specs.declared.forms.Form.{Form}
use Rattle.mpy_lexer.specs.declared.forms.Kind.{Kind}
use Rattle.mpy_lexer.specs.declared.token.Token.{Token}
use Rattle.mpy_lexer.specs.declared.line.Line.{Line}
use Rattle.mpy_lexer.specs.Bytes.{is_white}
use Rattle.mpy_lexer.specs.PhysicalLines.{byte_order_mark_len}
use Rattle.mpy_lexer.specs.Seen.{line_len}
use Rattle.mpy_lexer.specs.Lexing.{lex}
use Rattle.mpy_lexer.specs.TokenForms.{has_form}

-- white space and comments: from a `#` a comment goes on to the end of its line
unfoldable pub is_passed_over : Bool → List ℕ → Bool
is_passed_over in_comment [] = true
is_passed_over in_comment (c ∷ rest) =
    (in_comment || c == 35 || is_white c)
    && is_passed_over ((in_comment || c == 35) && not (c == 10)) rest

-- no longer front of the text than its first n bytes has the form of a token
abbrev pub IsLongest : Form → List ℕ → ℕ → Type 0
IsLongest form text n =
    (m : ℕ) → n < m → m ≤ length text → (k : Kind) → has_form form k (take m text) ≡ false

-- the text up to the end of its first line
abbrev pub first_line : List ℕ → List ℕ
first_line text = take (line_len text) text

-- A text from the place `from` on is what is passed over, then the token, and then more. On its
-- line the token is the longest form at its place.
pub record IsNext (form : Form) (from : ℕ) (text between : List ℕ) (t : Token) (more : List ℕ)
    : Type 0 where
  pub bytes : text ≡ between ++ (t.text ++ more)
  pub passed : is_passed_over false between ≡ true
  pub begins : t.from ≡ from + length between
  pub ends : t.to ≡ t.from + length t.text
  pub longest : IsLongest form (first_line (t.text ++ more)) (length t.text)

-- a text from the place `from` on is these tokens, one behind another, and what is passed over
abbrev pub IsCovered : Form → ℕ → List ℕ → List Token → Type 0
IsCovered form from text [] = is_passed_over false text ≡ true
IsCovered form from text (t ∷ ts) =
    (between : List ℕ) × (more : List ℕ) × IsNext form from text between t more
    × IsCovered form t.to more ts

-- the tokens of all lines
abbrev pub tokens_of_lines : List Line → List Token
tokens_of_lines ls = flat_map (λ l. l.tokens) ls

-- a text that has logical lines is covered by their tokens
abbrev pub TokensCoverTheirSource : Type 0
TokensCoverTheirSource =
    (form : Form) (source : List ℕ) (ls : List Line) → lex form source ≡ Ok ls →
    let mark = byte_order_mark_len source in
    IsCovered form mark (drop mark source) (tokens_of_lines ls)
