-- The tokens of a source: where they stand, and what their bytes are.
use Rattle.std.specs.Prelude.{◌≡◌, ℕ, ◌<◌, ◌≤◌, true, List, [], length, slice_range, All}
use Rattle.mpy_lexer.specs.declared.forms.Form.{Form}
use Rattle.mpy_lexer.specs.declared.token.Token.{Token}
use Rattle.mpy_lexer.specs.declared.line.Line.{Line}
use Rattle.mpy_lexer.specs.Lexing.{logical_lines}
use Rattle.mpy_lexer.specs.PhysicalLines.{rows}
use Rattle.mpy_lexer.specs.TokenForms.{has_form}

-- a token has at least one byte; its bytes are those of its span, and have the form of its kind
pub record IsIn (form : Form) (source : List ℕ) (t : Token) : Type 0 where
  pub some : t.from < t.to
  pub within : t.to ≤ length source
  pub text : t.text ≡ slice_range source t.from t.to
  pub spelled : has_form form t.kind t.text ≡ true

-- a line has a token, and each is one of the source
pub record IsLineOf (form : Form) (source : List ℕ) (l : Line) : Type 0 where
  pub some : 0 < length l.tokens
  pub tokens : All (IsIn form source) l.tokens

-- the logical lines of a source are of it, whatever is at fault in them
abbrev pub LinesAreOfTheirSource : Type 0
LinesAreOfTheirSource =
    (form : Form) (source : List ℕ)
    → All (IsLineOf form source) (logical_lines [] (rows form source))
