-- Physical lines: their bytes, and what is in them.
use Rattle.std.specs.Prelude.{ℕ, ◌+◌, Bool, true, false, not, ◌&&◌, ◌||◌, ◌==◌, nat_le, nat_eq}
use Rattle.std.specs.Prelude.{List, [], ◌∷◌, length, take, drop, Option, Some, None, if◌then◌else◌}
use Rattle.std.specs.List.{list_any, flat_map, prefix_len, count_by, starts_with}
use Rattle.mpy_lexer.specs.declared.forms.Form.{Form}
use Rattle.mpy_lexer.specs.declared.forms.Form.TheVariants.{Program, Rules}
use Rattle.mpy_lexer.specs.declared.pieces.Sort.{Sort}
use Rattle.mpy_lexer.specs.declared.pieces.Sort.TheVariants as sort
use Rattle.mpy_lexer.specs.declared.token.Token.{Token}
use Rattle.mpy_lexer.specs.declared.line.LexCause.{LexCause}
use Rattle.mpy_lexer.specs.declared.line.LexCause.TheVariants.{Byte, Tab}
use Rattle.mpy_lexer.specs.declared.rows.Row.{Row}
use Rattle.mpy_lexer.specs.Bytes.{is_blank, is_white}
use Rattle.mpy_lexer.specs.Pieces.{Part, parts}

-- a text may begin with the bytes EF BB BF, which are passed over
unfoldable pub byte_order_mark_len : List ℕ → ℕ
byte_order_mark_len bytes = if starts_with nat_eq bytes (239 ∷ 187 ∷ 191 ∷ []) then 3 else 0

abbrev pub with_byte : ℕ → List (List ℕ) → List (List ℕ)
with_byte c [] = (c ∷ []) ∷ []
with_byte c (l ∷ ls) = (c ∷ l) ∷ ls

-- the text cut behind each byte 10
unfoldable pub physical_lines : List ℕ → List (List ℕ)
physical_lines [] = []
physical_lines (c ∷ rest) =
    if c == 10 then (c ∷ []) ∷ physical_lines rest else with_byte c (physical_lines rest)

-- outside comments: 32 to 126, the 10 at the end, a 13 directly before it, and a 9 in white space
abbrev pub is_line_feed_next : List ℕ → Bool
is_line_feed_next [] = false
is_line_feed_next (c ∷ rest) = c == 10

abbrev pub is_allowed : Bool → ℕ → List ℕ → Bool
is_allowed in_space c rest =
    (nat_le 32 c && nat_le c 126) || c == 10 || (c == 13 && is_line_feed_next rest)
    || (c == 9 && in_space)

unfoldable pub has_foreign_byte : Bool → List ℕ → Bool
has_foreign_byte in_space [] = false
has_foreign_byte in_space (c ∷ rest) =
    not (is_allowed in_space c rest) || has_foreign_byte in_space rest

abbrev pub is_foreign : Sort → List ℕ → Bool
is_foreign sort.Space bytes = has_foreign_byte true bytes
is_foreign sort.Comment bytes = false
is_foreign sort.Wrong bytes = has_foreign_byte false bytes
is_foreign (sort.Token k) bytes = has_foreign_byte false bytes

-- neither white space nor a comment
abbrev pub is_solid : Sort → Bool
is_solid sort.Space = false
is_solid sort.Comment = false
is_solid sort.Wrong = true
is_solid (sort.Token k) = true

abbrev pub is_wrong : Sort → Bool
is_wrong sort.Wrong = true
is_wrong _ = false

abbrev pub token_in : Sort → ℕ → List ℕ → List Token
token_in (sort.Token k) from bytes =
    record { kind = k; from = from; to = from + length bytes; text = bytes } ∷ []
token_in _ from bytes = []

abbrev pub tokens_of : List Part → List Token
tokens_of ps = flat_map (λ p. token_in p.sort p.from p.bytes) ps

-- whether a tab stands in the white space at the front
unfoldable pub begins_with_tab : List ℕ → Bool
begins_with_tab line = list_any (λ c. c == 9) (take (prefix_len is_blank line) line)

-- how many spaces stand in the white space at the front
unfoldable pub column_of : List ℕ → ℕ
column_of line = count_by (λ c. c == 32) (take (prefix_len is_white line) line)

abbrev pub is_program : Form → Bool
is_program Program = true
is_program Rules = false

-- The cause at the earliest faulty byte of a line: a faulty tab has only white space before it.
abbrev pub byte_cause : Form → List ℕ → List Part → Option LexCause
byte_cause form line ps =
    if is_program form && begins_with_tab line && list_any (λ p. is_solid p.sort) ps then Some Tab
    else if list_any (λ p. is_foreign p.sort p.bytes) ps then Some Byte
    else None

-- what is in a physical line, by its parts
abbrev pub row_by : Form → ℕ → List ℕ → List Part → Row
row_by form number line ps =
    record {
      number = number;
      column = column_of line;
      cause = byte_cause form line ps;
      is_wrong = list_any (λ p. is_wrong p.sort) ps;
      tokens = tokens_of ps;
    }

unfoldable pub row_of : Form → ℕ → ℕ → List ℕ → Row
row_of form number from line = row_by form number line (parts form from 0 line)

-- what is in each line, where the first has this number and place
unfoldable pub rows_of : Form → ℕ → ℕ → List (List ℕ) → List Row
rows_of form number from [] = []
rows_of form number from (l ∷ ls) =
    row_of form number from l ∷ rows_of form (number + 1) (from + length l) ls

-- what is in each line of a source
unfoldable pub rows : Form → List ℕ → List Row
rows form bytes =
    let skipped = byte_order_mark_len bytes in
    rows_of form 1 skipped (physical_lines (drop skipped bytes))
