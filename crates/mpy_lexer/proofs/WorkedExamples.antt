-- Worked texts, each closed by computing its lines.
use Rattle.std.proofs.Common.{true, false, ◌≡◌, ℕ, ◌+◌, List, [], ◌∷◌, ◌++◌, length, refl, codes, Ok, Err, Some, None}
use Rattle.mpy_lexer.specs.declared.forms.Form.TheVariants.{Program, Rules}
use Rattle.mpy_lexer.specs.declared.forms.Kind.{Kind}
use Rattle.mpy_lexer.specs.declared.forms.Kind.TheVariants.{Name, Reserved, Number, Text, Mark, Meta}
use Rattle.mpy_lexer.specs.declared.token.Token.{Token}
use Rattle.mpy_lexer.specs.declared.line.Line.{Line}
use Rattle.mpy_lexer.specs.declared.line.LexCause.TheVariants as cause
use Rattle.mpy_lexer.specs.declared.line.LexError.TheVariants.{Fault}
use Rattle.mpy_lexer.specs.Words.{is_reserved, mark_len}
use Rattle.mpy_lexer.specs.Pieces.{closing, has_wrong_escape, name_at, number_at, sign_at, piece_at, parts}
use Rattle.mpy_lexer.specs.PhysicalLines.{byte_order_mark_len, physical_lines, has_foreign_byte, begins_with_tab, column_of, row_of, rows_of, rows}
use Rattle.mpy_lexer.specs.Brackets.{open_after, has_unmatched}
use Rattle.mpy_tree.specs.Leasts.{least}
use Rattle.mpy_lexer.specs.TokenForms.{has_form}
use Rattle.mpy_lexer.specs.TextLiterals.{characters, literal_characters}
use Rattle.mpy_lexer.specs.TokenLaws.{is_passed_over}
use Rattle.mpy_lexer.specs.Lexing.{byte_fault, faulty_lines, continued, logical_lines, length_fault, lex}

-- a token by its first place and its bytes
abbrev token : Kind → ℕ → List ℕ → Token
token kind from bytes = record { kind = kind; from = from; to = from + length bytes; text = bytes }

abbrev line : ℕ → ℕ → List Token → Line
line n column tokens = record { line = n; column = column; tokens = tokens }

-- a program of two lines
two_lines : lex Program (codes "def f(x):\n  return 'a'\n") ≡ Ok (line 1 0 (token Reserved 0 (codes "def") ∷ token Name 4 (codes "f") ∷ token Mark 5 (codes "(") ∷ token Name 6 (codes "x") ∷ token Mark 7 (codes ")") ∷ token Mark 8 (codes ":") ∷ []) ∷ line 2 2 (token Reserved 12 (codes "return") ∷ token Text 19 (codes "'a'") ∷ []) ∷ [])
unfolding lex byte_fault faulty_lines least continued logical_lines length_fault open_after has_unmatched byte_order_mark_len physical_lines has_foreign_byte begins_with_tab column_of row_of rows_of rows closing has_wrong_escape name_at number_at sign_at piece_at parts is_reserved mark_len
two_lines = refl

-- empty lines and comments are no logical lines
no_lines : lex Program (codes "\n  # {\n") ≡ Ok ([])
unfolding lex byte_fault faulty_lines least continued logical_lines length_fault open_after has_unmatched byte_order_mark_len physical_lines has_foreign_byte begins_with_tab column_of row_of rows_of rows closing has_wrong_escape name_at number_at sign_at piece_at parts is_reserved mark_len
no_lines = refl

-- a line goes on while a bracket is open
bracket_over_two_lines : lex Program (codes "x = [1,\n 2]\ny") ≡ Ok (line 1 0 (token Name 0 (codes "x") ∷ token Mark 2 (codes "=") ∷ token Mark 4 (codes "[") ∷ token Number 5 (codes "1") ∷ token Mark 6 (codes ",") ∷ token Number 9 (codes "2") ∷ token Mark 10 (codes "]") ∷ []) ∷ line 3 0 (token Name 12 (codes "y") ∷ []) ∷ [])
unfolding lex byte_fault faulty_lines least continued logical_lines length_fault open_after has_unmatched byte_order_mark_len physical_lines has_foreign_byte begins_with_tab column_of row_of rows_of rows closing has_wrong_escape name_at number_at sign_at piece_at parts is_reserved mark_len
bracket_over_two_lines = refl

-- the bracket that stays open stands on the lesser line
open_bracket_is_first : lex Program (codes "f(\n@\n") ≡ Err (Fault cause.Token 1)
unfolding lex byte_fault faulty_lines least continued logical_lines length_fault open_after has_unmatched byte_order_mark_len physical_lines has_foreign_byte begins_with_tab column_of row_of rows_of rows closing has_wrong_escape name_at number_at sign_at piece_at parts is_reserved mark_len
open_bracket_is_first = refl

-- a bracket closes the innermost alone, so the first one stays open
wrong_partner : lex Program (codes "(\n]\n") ≡ Err (Fault cause.Token 1)
unfolding lex byte_fault faulty_lines least continued logical_lines length_fault open_after has_unmatched byte_order_mark_len physical_lines has_foreign_byte begins_with_tab column_of row_of rows_of rows closing has_wrong_escape name_at number_at sign_at piece_at parts is_reserved mark_len
wrong_partner = refl

-- bytes are looked at before tokens
bytes_come_first : lex Program (codes "@\n" ++ 12 ∷ []) ≡ Err (Fault cause.Byte 2)
unfolding lex byte_fault faulty_lines least continued logical_lines length_fault open_after has_unmatched byte_order_mark_len physical_lines has_foreign_byte begins_with_tab column_of row_of rows_of rows closing has_wrong_escape name_at number_at sign_at piece_at parts is_reserved mark_len
bytes_come_first = refl

-- a tab before what is no comment
tab_before_a_token : lex Program (codes "\n \tx") ≡ Err (Fault cause.Tab 2)
unfolding lex byte_fault faulty_lines least continued logical_lines length_fault open_after has_unmatched byte_order_mark_len physical_lines has_foreign_byte begins_with_tab column_of row_of rows_of rows closing has_wrong_escape name_at number_at sign_at piece_at parts is_reserved mark_len
tab_before_a_token = refl

-- a tab before a comment alone
tab_before_a_comment : lex Program (codes " \t#\n") ≡ Ok ([])
unfolding lex byte_fault faulty_lines least continued logical_lines length_fault open_after has_unmatched byte_order_mark_len physical_lines has_foreign_byte begins_with_tab column_of row_of rows_of rows closing has_wrong_escape name_at number_at sign_at piece_at parts is_reserved mark_len
tab_before_a_comment = refl

-- tabs may stand anywhere in the white space of rules
tab_in_rules : lex Rules (codes "\tx") ≡ Ok (line 1 0 (token Name 1 (codes "x") ∷ []) ∷ [])
unfolding lex byte_fault faulty_lines least continued logical_lines length_fault open_after has_unmatched byte_order_mark_len physical_lines has_foreign_byte begins_with_tab column_of row_of rows_of rows closing has_wrong_escape name_at number_at sign_at piece_at parts is_reserved mark_len
tab_in_rules = refl

-- a quote directly behind a metavariable primes it
primed : lex Rules (codes "$a' # '") ≡ Ok (line 1 0 (token Meta 0 (codes "$a'") ∷ []) ∷ [])
unfolding lex byte_fault faulty_lines least continued logical_lines length_fault open_after has_unmatched byte_order_mark_len physical_lines has_foreign_byte begins_with_tab column_of row_of rows_of rows closing has_wrong_escape name_at number_at sign_at piece_at parts is_reserved mark_len
primed = refl

-- and opens a text elsewhere
not_primed : lex Rules (codes "$a12''") ≡ Ok (line 1 0 (token Meta 0 (codes "$a1") ∷ token Number 3 (codes "2") ∷ token Text 4 (codes "''") ∷ []) ∷ [])
unfolding lex byte_fault faulty_lines least continued logical_lines length_fault open_after has_unmatched byte_order_mark_len physical_lines has_foreign_byte begins_with_tab column_of row_of rows_of rows closing has_wrong_escape name_at number_at sign_at piece_at parts is_reserved mark_len
not_primed = refl

-- programs have no metavariables
meta_in_a_program : lex Program (codes "$a") ≡ Err (Fault cause.Token 1)
unfolding lex byte_fault faulty_lines least continued logical_lines length_fault open_after has_unmatched byte_order_mark_len physical_lines has_foreign_byte begins_with_tab column_of row_of rows_of rows closing has_wrong_escape name_at number_at sign_at piece_at parts is_reserved mark_len
meta_in_a_program = refl

-- the longest mark
longest_mark : lex Rules (codes "//===>") ≡ Ok (line 1 0 (token Mark 0 (codes "//=") ∷ token Mark 3 (codes "==") ∷ token Mark 5 (codes ">") ∷ []) ∷ [])
unfolding lex byte_fault faulty_lines least continued logical_lines length_fault open_after has_unmatched byte_order_mark_len physical_lines has_foreign_byte begins_with_tab column_of row_of rows_of rows closing has_wrong_escape name_at number_at sign_at piece_at parts is_reserved mark_len
longest_mark = refl

-- the largest number
largest_number : lex Program (codes "2147483647") ≡ Ok (line 1 0 (token Number 0 (codes "2147483647") ∷ []) ∷ [])
unfolding lex byte_fault faulty_lines least continued logical_lines length_fault open_after has_unmatched byte_order_mark_len physical_lines has_foreign_byte begins_with_tab column_of row_of rows_of rows closing has_wrong_escape name_at number_at sign_at piece_at parts is_reserved mark_len
largest_number = refl

-- a number that is too large
too_large : lex Program (codes "2147483648") ≡ Err (Fault cause.Token 1)
unfolding lex byte_fault faulty_lines least continued logical_lines length_fault open_after has_unmatched byte_order_mark_len physical_lines has_foreign_byte begins_with_tab column_of row_of rows_of rows closing has_wrong_escape name_at number_at sign_at piece_at parts is_reserved mark_len
too_large = refl

-- a number with a letter behind it
glued : lex Program (codes "1if") ≡ Err (Fault cause.Token 1)
unfolding lex byte_fault faulty_lines least continued logical_lines length_fault open_after has_unmatched byte_order_mark_len physical_lines has_foreign_byte begins_with_tab column_of row_of rows_of rows closing has_wrong_escape name_at number_at sign_at piece_at parts is_reserved mark_len
glued = refl

-- a backslash takes the quote with it
escaped_quote : lex Program (codes "'\\''") ≡ Ok (line 1 0 (token Text 0 (codes "'\\''") ∷ []) ∷ [])
unfolding lex byte_fault faulty_lines least continued logical_lines length_fault open_after has_unmatched byte_order_mark_len physical_lines has_foreign_byte begins_with_tab column_of row_of rows_of rows closing has_wrong_escape name_at number_at sign_at piece_at parts is_reserved mark_len
escaped_quote = refl

-- a backslash takes no other byte
wrong_escape : lex Program (codes "'\\n'") ≡ Err (Fault cause.Token 1)
unfolding lex byte_fault faulty_lines least continued logical_lines length_fault open_after has_unmatched byte_order_mark_len physical_lines has_foreign_byte begins_with_tab column_of row_of rows_of rows closing has_wrong_escape name_at number_at sign_at piece_at parts is_reserved mark_len
wrong_escape = refl

-- a text ends on its line
text_over_the_end : lex Program (codes "'a\\\n'") ≡ Err (Fault cause.Token 1)
unfolding lex byte_fault faulty_lines least continued logical_lines length_fault open_after has_unmatched byte_order_mark_len physical_lines has_foreign_byte begins_with_tab column_of row_of rows_of rows closing has_wrong_escape name_at number_at sign_at piece_at parts is_reserved mark_len
text_over_the_end = refl

-- the mark at the front is passed over, but counts in spans
byte_order_mark : lex Program (239 ∷ 187 ∷ 191 ∷ codes " x") ≡ Ok (line 1 1 (token Name 4 (codes "x") ∷ []) ∷ [])
unfolding lex byte_fault faulty_lines least continued logical_lines length_fault open_after has_unmatched byte_order_mark_len physical_lines has_foreign_byte begins_with_tab column_of row_of rows_of rows closing has_wrong_escape name_at number_at sign_at piece_at parts is_reserved mark_len
byte_order_mark = refl

-- a carriage return before the end of a line is white space
return_before_the_end : lex Program (codes "x" ++ 13 ∷ 10 ∷ []) ≡ Ok (line 1 0 (token Name 0 (codes "x") ∷ []) ∷ [])
unfolding lex byte_fault faulty_lines least continued logical_lines length_fault open_after has_unmatched byte_order_mark_len physical_lines has_foreign_byte begins_with_tab column_of row_of rows_of rows closing has_wrong_escape name_at number_at sign_at piece_at parts is_reserved mark_len
return_before_the_end = refl

-- and is a faulty byte elsewhere
return_at_the_end : lex Program (codes "x" ++ 13 ∷ []) ≡ Err (Fault cause.Byte 1)
unfolding lex byte_fault faulty_lines least continued logical_lines length_fault open_after has_unmatched byte_order_mark_len physical_lines has_foreign_byte begins_with_tab column_of row_of rows_of rows closing has_wrong_escape name_at number_at sign_at piece_at parts is_reserved mark_len
return_at_the_end = refl

-- a comment may have every byte
bytes_of_a_comment : lex Program (codes "# " ++ 195 ∷ 169 ∷ 9 ∷ 0 ∷ []) ≡ Ok ([])
unfolding lex byte_fault faulty_lines least continued logical_lines length_fault open_after has_unmatched byte_order_mark_len physical_lines has_foreign_byte begins_with_tab column_of row_of rows_of rows closing has_wrong_escape name_at number_at sign_at piece_at parts is_reserved mark_len
bytes_of_a_comment = refl

-- the bytes of a token by themselves
names_and_numbers : has_form Program Name (codes "_a1") ∷ has_form Program Name (codes "1a") ∷ has_form Program Name (codes "if") ∷ has_form Program Number (codes "0") ∷ has_form Program Number (codes "007") ∷ has_form Program Number (codes "2147483648") ∷ [] ≡ true ∷ false ∷ false ∷ true ∷ false ∷ false ∷ []
unfolding is_reserved
names_and_numbers = refl

texts_and_signs : has_form Program Text (codes "'a\\'b'") ∷ has_form Program Text (codes "'a'b'") ∷ has_form Program Text (codes "'a\\n'") ∷ has_form Rules Mark (codes "=>") ∷ has_form Program Mark (codes "=>") ∷ has_form Rules Meta (codes "$a1'") ∷ has_form Rules Meta (codes "$a'1") ∷ [] ≡ true ∷ false ∷ false ∷ true ∷ false ∷ true ∷ false ∷ []
unfolding closing has_wrong_escape
texts_and_signs = refl

-- what may stand between tokens: white space, and comments up to the end of their line
between_tokens : is_passed_over false (codes " # a\n\t# b") ∷ is_passed_over false (codes "# a\nb") ∷ is_passed_over false (codes "a") ∷ [] ≡ true ∷ false ∷ false ∷ []
unfolding is_passed_over
between_tokens = refl

-- what a literal spells
literals : literal_characters (codes "'it\\'s'") ∷ literal_characters (codes "'a\\n'") ∷ literal_characters (codes "'a'b'") ∷ [] ≡ Some (codes "it's") ∷ None ∷ None ∷ []
unfolding characters
literals = refl
