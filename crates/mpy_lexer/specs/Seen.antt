-- How the code goes past the pieces of a line, and joins lines.
use Rattle.std.specs.Prelude.{ℕ, ◌+◌, ◌||◌, ◌==◌, List, [], ◌∷◌, ◌++◌, if◌then◌else◌}
use Rattle.mpy_lexer.specs.declared.pieces.Sort.{Sort}
use Rattle.mpy_lexer.specs.declared.rows.Seen.{Seen}
use Rattle.mpy_lexer.specs.declared.token.Token.{Token}
use Rattle.mpy_lexer.specs.declared.line.Line.{Line}
use Rattle.mpy_lexer.specs.PhysicalLines.{is_solid, is_foreign, is_wrong, token_in}

-- what was seen behind a piece
abbrev pub seen_behind : Seen → Sort → ℕ → List ℕ → Seen
seen_behind seen sort from bytes = record {
  is_solid = seen.is_solid || is_solid sort;
  is_foreign = seen.is_foreign || is_foreign sort bytes;
  is_wrong = seen.is_wrong || is_wrong sort;
  tokens = seen.tokens ++ token_in sort from bytes;
}

-- how long the first physical line is, with the byte that ends it
unfoldable pub line_len : List ℕ → ℕ
line_len [] = 0
line_len (c ∷ rest) = if c == 10 then 1 else 1 + line_len rest

-- the lines, the last one with more tokens
unfoldable pub with_more : List Line → List Token → List Line
with_more [] more = []
with_more (l ∷ []) more = record l { tokens = l.tokens ++ more } ∷ []
with_more (l ∷ m ∷ ls) more = l ∷ with_more (m ∷ ls) more
