-- The logical lines of a text, or the first cause for which it has none.
use Rattle.std.specs.Prelude.{◌≡◌, ℕ, Bool, not, ◌||◌, ◌&&◌, List, [], ◌∷◌, ◌++◌, length, map}
use Rattle.std.specs.Prelude.{nat_lt, Option, Some, None, option_map, Result, Ok, Err}
use Rattle.std.specs.Prelude.{if◌then◌else◌}
use Rattle.std.specs.Option.{option_or}
use Rattle.mpy_lexer.specs.declared.forms.Form.{Form}
use Rattle.mpy_lexer.specs.declared.token.Token.{Token}
use Rattle.mpy_lexer.specs.declared.line.Line.{Line}
use Rattle.mpy_lexer.specs.declared.line.LexCause.{LexCause}
use Rattle.mpy_lexer.specs.declared.line.LexCause.TheVariants as cause
use Rattle.mpy_lexer.specs.declared.line.LexError.{LexError}
use Rattle.mpy_lexer.specs.declared.line.LexError.TheVariants.{Fault, NoMemory}
use Rattle.mpy_lexer.specs.declared.brackets.Bracket.{Bracket}
use Rattle.mpy_lexer.specs.declared.rows.Row.{Row}
use Rattle.mpy_tree.specs.Leasts.{least}
use Rattle.mpy_lexer.specs.Brackets.{is_empty, open_after, has_unmatched}
use Rattle.mpy_lexer.specs.PhysicalLines.{rows}

-- the cause on a line, if there is one
abbrev pub fault_on : ℕ → Option LexCause → Option LexError
fault_on line c = option_map (λ x. Fault x line) c

-- the first line with a faulty byte, and the cause there
unfoldable pub byte_fault : List Row → Option LexError
byte_fault [] = None
byte_fault (r ∷ rs) = option_or (fault_on r.number r.cause) (byte_fault rs)

-- Where tokens are at fault: the lines with what is no token or a bracket that closes nothing, and
-- those of the brackets that stay open.
unfoldable pub faulty_lines : List Bracket → List Row → List ℕ
faulty_lines opened [] = map (λ b. b.line) opened
faulty_lines opened (r ∷ rs) =
    (if r.is_wrong || has_unmatched r.number opened r.tokens then r.number ∷ [] else [])
    ++ faulty_lines (open_after r.number opened r.tokens) rs

abbrev pub token_fault : List Row → Option LexError
token_fault rs = option_map (λ line. Fault cause.Token line) (least (faulty_lines [] rs))

-- the tokens of the lines that follow while a bracket is open
unfoldable pub continued : List Bracket → List Row → List Token
continued [] rs = []
continued (b ∷ outer) [] = []
continued (b ∷ outer) (r ∷ rs) = r.tokens ++ continued (open_after r.number (b ∷ outer) r.tokens) rs

abbrev pub begins : List Bracket → List Token → Bool
begins opened tokens = is_empty opened && not (is_empty tokens)

-- A line with a token begins a logical line where no bracket is open from before.
unfoldable pub logical_lines : List Bracket → List Row → List Line
logical_lines opened [] = []
logical_lines opened (r ∷ rs) =
    let next = open_after r.number opened r.tokens in
    if begins opened r.tokens then
    record { line = r.number; column = r.column; tokens = r.tokens ++ continued next rs }
    ∷ logical_lines next rs
    else logical_lines next rs

-- the first logical line with more than 400 tokens
unfoldable pub length_fault : List Line → Option LexError
length_fault [] = None
length_fault (l ∷ ls) =
    if nat_lt 400 (length l.tokens) then Some (Fault cause.LongLine l.line) else length_fault ls

-- the first cause: bytes, then tokens, then long lines
abbrev pub first_fault : List Row → Option LexError
first_fault rs =
    option_or (byte_fault rs) (option_or (token_fault rs) (length_fault (logical_lines [] rs)))

abbrev pub lines_unless : Option LexError → List Line → Result (List Line) LexError
lines_unless None ls = Ok ls
lines_unless (Some e) ls = Err e

unfoldable pub lex : Form → List ℕ → Result (List Line) LexError
lex form bytes = let rs = rows form bytes in lines_unless (first_fault rs) (logical_lines [] rs)

-- a cause stands where the text has it; want of memory may be answered for any text
abbrev pub IsAnswered : Form → List ℕ → LexError → Type 0
IsAnswered form bytes (Fault c line) = lex form bytes ≡ Err (Fault c line)
IsAnswered form bytes NoMemory = Unit {0}
