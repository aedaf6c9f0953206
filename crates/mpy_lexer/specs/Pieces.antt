-- What a physical line is made of: at each place the longest form that begins there.
use Rattle.std.specs.Prelude.{ℕ, zero, suc, ◌+◌, ◌-◌, ◌*◌, Bool, false, not, ◌&&◌, ◌||◌, ◌==◌}
use Rattle.std.specs.Prelude.{nat_le, List, [], ◌∷◌, length, take, drop, Option, Some, None}
use Rattle.std.specs.Prelude.{option_map, if◌then◌else◌}
use Rattle.std.specs.Char.{is_ascii_digit}
use Rattle.std.specs.List.{prefix_len, fold}
use Rattle.mpy_lexer.specs.declared.forms.Form.{Form}
use Rattle.mpy_lexer.specs.declared.forms.Form.TheVariants.{Program, Rules}
use Rattle.mpy_lexer.specs.declared.forms.Kind.TheVariants as kind
use Rattle.mpy_lexer.specs.declared.pieces.Sort.{Sort}
use Rattle.mpy_lexer.specs.declared.pieces.Sort.TheVariants.{Space, Comment, Wrong, Token}
use Rattle.mpy_lexer.specs.declared.pieces.Piece.{Piece}
use Rattle.mpy_lexer.specs.Bytes.{is_white, is_quote, is_name_start, is_name_byte, is_meta_letter}
use Rattle.mpy_lexer.specs.Words.{is_reserved, mark_len}

abbrev pub piece : Sort → ℕ → Piece
piece sort n = record { sort = sort; len = n }

-- How far the closing quote reaches. A byte that a backslash takes with it, as `taken` says of the
-- first one, closes and takes nothing. The end of the line closes nothing, so there it doesn't
-- matter what a backslash takes.
unfoldable pub closing : ℕ → Bool → List ℕ → Option ℕ
closing quote taken [] = None
closing quote taken (c ∷ rest) =
    if not taken && c == quote then Some 1
    else option_map (λ n. n + 1) (closing quote (not taken && c == 92) rest)

-- whether a backslash takes a byte that is no backslash and no quote
unfoldable pub has_wrong_escape : Bool → List ℕ → Bool
has_wrong_escape taken [] = false
has_wrong_escape taken (c ∷ rest) =
    (taken && not (c == 92 || is_quote c)) || has_wrong_escape (not taken && c == 92) rest

-- a text literal after its opening quote: up to the closing one, or to the end of the line where
-- there is none
abbrev pub text_to : List ℕ → Option ℕ → Piece
text_to body None = piece Wrong (1 + length body)
text_to body (Some n) =
    piece (if has_wrong_escape false (take n body) then Wrong else Token kind.Text) (1 + n)

-- a name, which may be reserved
unfoldable pub name_at : List ℕ → Piece
name_at text =
    let n = prefix_len is_name_byte text in
    piece (Token (if is_reserved (take n text) then kind.Reserved else kind.Name)) n

-- the number that the digits write
abbrev pub number_value : List ℕ → ℕ
number_value digits = fold (λ n c. n * 10 + (c - 48)) 0 digits

-- the number that the digits write, if it is at most 2147483647
abbrev pub number_of : List ℕ → Option ℕ
number_of digits =
    if nat_le (number_value digits) 2147483647 then Some (number_value digits) else None

-- 0, or digits that don't begin with it
abbrev pub digits_len : List ℕ → ℕ
digits_len [] = 0
digits_len (c ∷ rest) = if c == 48 then 1 else prefix_len is_ascii_digit (c ∷ rest)

-- a letter, a digit, an underscore or a dot at the front
abbrev pub is_glued : List ℕ → Bool
is_glued [] = false
is_glued (c ∷ rest) = is_name_byte c || c == 46

-- a number of at most 2147483647 that nothing is glued to
unfoldable pub number_at : List ℕ → Piece
number_at text =
    let n = digits_len text in
    let small = nat_le (number_value (take n text)) 2147483647 in
    piece (if small && not (is_glued (drop n text)) then Token kind.Number else Wrong) n

-- 1 where the first byte passes, else 0
abbrev pub one_if : (ℕ → Bool) → List ℕ → ℕ
one_if test [] = 0
one_if test (c ∷ rest) = if test c then 1 else 0

-- a metavariable of rules: `$`, a letter, perhaps a digit, perhaps a prime; 0 where none begins
-- here
abbrev pub meta_len : List ℕ → ℕ
meta_len [] = 0
meta_len (c ∷ []) = 0
meta_len (c ∷ letter ∷ rest) =
    let digit = one_if is_ascii_digit rest in
    let prime = one_if (λ p. p == 39) (drop digit rest) in
    if c == 36 && is_meta_letter letter then 2 + digit + prime else 0

abbrev pub meta_len_in : Form → List ℕ → ℕ
meta_len_in Program text = 0
meta_len_in Rules text = meta_len text

-- a metavariable, a mark, or a byte that begins nothing
abbrev pub sign_by : ℕ → ℕ → Piece
sign_by (suc meta) mark = piece (Token kind.Meta) (suc meta)
sign_by zero (suc mark) = piece (Token kind.Mark) (suc mark)
sign_by zero zero = piece Wrong 1

unfoldable pub sign_at : Form → List ℕ → Piece
sign_at form text = sign_by (meta_len_in form text) (mark_len form text)

-- the longest form at the front of a text
unfoldable pub piece_at : Form → List ℕ → Piece
piece_at form [] = piece Space 0
piece_at form (c ∷ rest) =
    if is_white c then piece Space (prefix_len is_white (c ∷ rest))
    else if c == 35 then piece Comment (length (c ∷ rest))
    else if is_quote c then text_to rest (closing c false rest)
    else if is_name_start c then name_at (c ∷ rest)
    else if is_ascii_digit c then number_at (c ∷ rest)
    else sign_at form (c ∷ rest)

-- what stands at a place of the source
pub record Part : Type 0 where
  pub sort : Sort
  pub from : ℕ
  pub bytes : List ℕ

abbrev pub part : Piece → ℕ → List ℕ → Part
part p from text = record { sort = p.sort; from = from; bytes = take p.len text }

-- The parts of a line whose first byte stands at `from`, where the part before them takes the first
-- `taken` bytes: each byte that isn't taken begins one.
unfoldable pub parts : Form → ℕ → ℕ → List ℕ → List Part
parts form from taken [] = []
parts form from (suc n) (c ∷ rest) = parts form (from + 1) n rest
parts form from zero (c ∷ rest) =
    let p = piece_at form (c ∷ rest) in
    part p from (c ∷ rest) ∷ parts form (from + 1) (p.len - 1) rest
