-- The piece at a token's front is the token, where the byte behind it ends it.
use Rattle.std.proofs.Common.{◌≡◌, ℕ, suc, ◌+◌, Bool, true, false, not, ◌&&◌, ◌||◌, cond, List, [], ◌∷◌, ◌++◌, length, take, drop, Option, Some, None, option_map, refl, ap, ◌∙◌, arith, rules, eqb, one-add}
use Rattle.std.specs.Prelude.{nat_le}
use Rattle.std.specs.List.{prefix_len, list_all}
use Rattle.std.specs.Char.{is_ascii_digit}
use Rattle.std.proofs.Math.Seq.{take-append_seam, drop-append_seam}
use Rattle.std.proofs.lemmas.Bool.{and_parts, and_from, or_parts, eqb-true}
use Rattle.std.proofs.lemmas.Bool.Decides.{nat_tests}
use Rattle.mpy_lexer.specs.declared.forms.Form.TheVariants.{Program}
use Rattle.mpy_lexer.specs.declared.forms.Kind.{Kind}
use Rattle.mpy_lexer.specs.declared.forms.Kind.TheVariants.{Name, Reserved, Number, Text, Mark, Meta}
use Rattle.mpy_lexer.specs.Bytes.{is_white, is_quote, is_name_start, is_name_byte}
use Rattle.mpy_lexer.specs.Words.{is_reserved, mark_len, program_marks}
use Rattle.mpy_lexer.specs.Pieces.{piece_at, name_at, number_at, closing, text_to, has_wrong_escape, sign_at, number_value, digits_len}
use Rattle.mpy_lexer.specs.PhysicalLines.{is_solid, is_wrong, is_foreign, token_in, has_foreign_byte}
use Rattle.mpy_lexer.specs.TokenForms.{has_form, is_name, is_number, is_none_behind, is_one_of, is_text, is_length}
use Rattle.mpy_lexer.proofs.WordLaws.{one_of, each_passes, reserved_is_name}
use Rattle.mpy_round_trip.proofs.Scraps.{type_of, ends_before}

abbrev pub Piece : Type 0
Piece = type_of (piece_at Program [])

-- the piece is a token of this kind, so many bytes long
pub record IsToken (k : Kind) (n : ℕ) (p : Piece) : Type 0 where
  pub len : p.len ≡ n
  pub solid : is_solid p.sort ≡ true
  pub right : is_wrong p.sort ≡ false
  pub foreign : (bytes : List ℕ) → is_foreign p.sort bytes ≡ has_foreign_byte false bytes
  pub tokens : (from : ℕ) (bytes : List ℕ) → token_in p.sort from bytes ≡ record { kind = k; from = from; to = from + length bytes; text = bytes } ∷ []

not_false : (b : Bool) → not b ≡ true → b ≡ false
not_false true e = absurd cc
not_false false e = refl

-- a run of bytes that pass ends at one that doesn't
run_ends : (test : ℕ → Bool) (xs : List ℕ) (c : ℕ) (rest : List ℕ) → list_all test xs ≡ true → test c ≡ false → prefix_len test (xs ++ c ∷ rest) ≡ length xs
run_ends test [] c rest all ends = rw ends refl
run_ends test (x ∷ xs) c rest all ends =
    let parts = and_parts (test x) (list_all test xs) all in
    rw (parts.0, run_ends test xs c rest parts.1, one-add) refl

-- names and reserved words

start_white : (c : ℕ) → is_name_start c ≡ true → is_white c ≡ false
start_white c h = grind (arith, nat_tests)

start_hash : (c : ℕ) → is_name_start c ≡ true → eqb c 35 ≡ false
start_hash c h = grind (arith, nat_tests)

start_quote : (c : ℕ) → is_name_start c ≡ true → is_quote c ≡ false
start_quote c h = grind (arith, nat_tests)

start_byte : (c : ℕ) → is_name_start c ≡ true → is_name_byte c ≡ true
start_byte c h = rw h refl

at_start : (x : ℕ) (rest : List ℕ) → is_name_start x ≡ true → piece_at Program (x ∷ rest) ≡ name_at (x ∷ rest)
unfolding piece_at
at_start x rest start = rw (start_white x start, start_hash x start, start_quote x start, start) refl

named : (text word : List ℕ) (b : Bool) → prefix_len is_name_byte text ≡ length word → take (length word) text ≡ word → is_reserved word ≡ b → IsToken (cond b Reserved Name) (length word) (name_at text)
unfolding name_at
named text word b run front e = rw (run, front, e) record { len = refl; solid = refl; right = refl; foreign = λ bytes. refl; tokens = λ from bytes. refl }

word_piece : (word : List ℕ) (c : ℕ) (rest : List ℕ) (b : Bool) → is_name word ≡ true → is_name_byte c ≡ false → is_reserved word ≡ b → IsToken (cond b Reserved Name) (length word) (piece_at Program (word ++ c ∷ rest))
word_piece [] c rest b form ends e = absurd cc
word_piece (x ∷ xs) c rest b form ends e =
    let name = and_parts (is_name_start x) (list_all is_name_byte xs) form in
    let run = run_ends is_name_byte (x ∷ xs) c rest (and_from (is_name_byte x) (list_all is_name_byte xs) (start_byte x name.0) name.1) ends in
    rw (at_start x (xs ++ c ∷ rest) name.0) (named (x ∷ xs ++ c ∷ rest) (x ∷ xs) b run (take-append_seam (x ∷ xs) (c ∷ rest)) e)

name_piece : (word : List ℕ) (c : ℕ) (rest : List ℕ) → has_form Program Name word ≡ true → is_name_byte c ≡ false → IsToken Name (length word) (piece_at Program (word ++ c ∷ rest))
name_piece word c rest form ends =
    let parts = and_parts (is_name word) (not (is_reserved word)) form in
    word_piece word c rest false parts.0 ends (not_false (is_reserved word) parts.1)

reserved_piece : (word : List ℕ) (c : ℕ) (rest : List ℕ) → is_reserved word ≡ true → is_name_byte c ≡ false → IsToken Reserved (length word) (piece_at Program (word ++ c ∷ rest))
reserved_piece word c rest e ends = word_piece word c rest true (reserved_is_name word e) ends e

-- numbers

digit_white : (c : ℕ) → is_ascii_digit c ≡ true → is_white c ≡ false
digit_white c h = grind (arith, nat_tests)

digit_hash : (c : ℕ) → is_ascii_digit c ≡ true → eqb c 35 ≡ false
digit_hash c h = grind (arith, nat_tests)

digit_quote : (c : ℕ) → is_ascii_digit c ≡ true → is_quote c ≡ false
digit_quote c h = grind (arith, nat_tests)

digit_start : (c : ℕ) → is_ascii_digit c ≡ true → is_name_start c ≡ false
digit_start c h = grind (arith, nat_tests)

at_digit : (x : ℕ) (rest : List ℕ) → is_ascii_digit x ≡ true → piece_at Program (x ∷ rest) ≡ number_at (x ∷ rest)
unfolding piece_at
at_digit x rest digit = rw (digit_white x digit, digit_hash x digit, digit_quote x digit, digit_start x digit, digit) refl

numbered : (text word : List ℕ) (c : ℕ) (rest : List ℕ) → digits_len text ≡ length word → take (length word) text ≡ word → drop (length word) text ≡ c ∷ rest → nat_le (number_value word) 2147483647 ≡ true → is_name_byte c || eqb c 46 ≡ false
    → IsToken Number (length word) (number_at text)
unfolding number_at
numbered text word c rest run front behind small ends = rw (run, front, behind, small, ends) record { len = refl; solid = refl; right = refl; foreign = λ bytes. refl; tokens = λ from bytes. refl }

digits_run : (b : Bool) (x : ℕ) (xs : List ℕ) (c : ℕ) (rest : List ℕ) → eqb x 48 ≡ b → list_all is_ascii_digit (x ∷ xs) ≡ true → is_none_behind x xs ≡ true → is_ascii_digit c ≡ false → cond b 1 (prefix_len is_ascii_digit (x ∷ xs ++ c ∷ rest)) ≡ length (x ∷ xs)
digits_run true x [] c rest e all none ends = refl
digits_run true x (y ∷ xs) c rest e all none ends = let wrong : false ≡ true = rw e at none in absurd cc
digits_run false x xs c rest e all none ends = run_ends is_ascii_digit (x ∷ xs) c rest all ends

number_piece : (word : List ℕ) (c : ℕ) (rest : List ℕ) → is_number word ≡ true → is_name_byte c || eqb c 46 ≡ false → IsToken Number (length word) (piece_at Program (word ++ c ∷ rest))
number_piece [] c rest form ends = absurd cc
number_piece (x ∷ xs) c rest form ends =
    let parts = and_parts (list_all is_ascii_digit (x ∷ xs) && is_none_behind x xs) (nat_le (number_value (x ∷ xs)) 2147483647) form in
    let digits = and_parts (list_all is_ascii_digit (x ∷ xs)) (is_none_behind x xs) parts.0 in
    let first = and_parts (is_ascii_digit x) (list_all is_ascii_digit xs) digits.0 in
    let other = (or_parts (is_name_start c) (is_ascii_digit c) (or_parts (is_name_byte c) (eqb c 46) ends).0).1 in
    rw (at_digit x (xs ++ c ∷ rest) first.0)
    (numbered (x ∷ xs ++ c ∷ rest) (x ∷ xs) c rest (digits_run (eqb x 48) x xs c rest refl digits.0 digits.1 other) (take-append_seam (x ∷ xs) (c ∷ rest)) (drop-append_seam (x ∷ xs) (c ∷ rest)) parts.1 ends)

-- texts

quote_white : (c : ℕ) → is_quote c ≡ true → is_white c ≡ false
quote_white c h = grind (arith, nat_tests)

quote_hash : (c : ℕ) → is_quote c ≡ true → eqb c 35 ≡ false
quote_hash c h = grind (arith, nat_tests)

at_quote : (x : ℕ) (rest : List ℕ) → is_quote x ≡ true → piece_at Program (x ∷ rest) ≡ text_to rest (closing x false rest)
unfolding piece_at
at_quote x rest quote = rw (quote_white x quote, quote_hash x quote, quote) refl

option_case : (o p : Option ℕ) (n : ℕ) → ((m : ℕ) → o ≡ Some m → p ≡ Some m) → option_map (λ m. m + 1) o ≡ Some n → option_map (λ m. m + 1) p ≡ Some n
option_case None p n more e = absurd cc
option_case (Some m) p n more e = rw (more m refl) e

closing_case : (quote : ℕ) (taken : Bool) (c : ℕ) (rest more : List ℕ) (n : ℕ) (b : Bool) → ((m : ℕ) → closing quote (not taken && eqb c 92) rest ≡ Some m → closing quote (not taken && eqb c 92) (rest ++ more) ≡ Some m)
    → cond b (Some 1) (option_map (λ m. m + 1) (closing quote (not taken && eqb c 92) rest)) ≡ Some n → cond b (Some 1) (option_map (λ m. m + 1) (closing quote (not taken && eqb c 92) (rest ++ more))) ≡ Some n
closing_case quote taken c rest more n true longer e = e
closing_case quote taken c rest more n false longer e = option_case (closing quote (not taken && eqb c 92) rest) (closing quote (not taken && eqb c 92) (rest ++ more)) n longer e

-- what closes a text closes it whatever follows
closing_longer : (quote : ℕ) (taken : Bool) (xs more : List ℕ) (n : ℕ) → closing quote taken xs ≡ Some n → closing quote taken (xs ++ more) ≡ Some n
unfolding closing
closing_longer quote taken [] more n e = absurd cc
closing_longer quote taken (c ∷ rest) more n e = closing_case quote taken c rest more n (not taken && eqb c quote) (λ m. closing_longer quote (not taken && eqb c 92) rest more m) e

same_length : (n : ℕ) (o : Option ℕ) → is_length n o ≡ true → o ≡ Some n
same_length n None e = absurd cc
same_length n (Some m) e = ap (λ k. Some k) (eqb-true m n e)

quoted : (body rest : List ℕ) → has_wrong_escape false body ≡ false → IsToken Text (suc (length body)) (text_to (body ++ rest) (Some (length body)))
quoted body rest right = rw (take-append_seam body rest, right) record { len = one-add (length body); solid = refl; right = refl; foreign = λ bytes. refl; tokens = λ from bytes. refl }

text_piece : (word rest : List ℕ) → is_text word ≡ true → IsToken Text (length word) (piece_at Program (word ++ rest))
text_piece [] rest form = absurd cc
text_piece (x ∷ body) rest form =
    let parts = and_parts (is_quote x && is_length (length body) (closing x false body)) (not (has_wrong_escape false body)) form in
    let first = and_parts (is_quote x) (is_length (length body) (closing x false body)) parts.0 in
    let ends : closing x false (body ++ rest) ≡ Some (length body) = closing_longer x false body rest (length body) (same_length (length body) (closing x false body) first.1) in
    rw (at_quote x (body ++ rest) first.0, ends) (quoted body rest (not_false (has_wrong_escape false body) parts.1))

-- marks

-- nothing but a mark begins with this byte
abbrev begins_mark : List ℕ → Bool
begins_mark [] = false
begins_mark (c ∷ rest) = not (is_white c || eqb c 35 || is_quote c || is_name_start c || is_ascii_digit c)

mark_begins : (word : List ℕ) → is_one_of program_marks word ≡ true → begins_mark word ≡ true
mark_begins word e = one_of (λ w. begins_mark w ≡ true) program_marks word (each_passes begins_mark program_marks refl) e

at_sign : (x : ℕ) (rest : List ℕ) → is_white x || eqb x 35 || is_quote x || is_name_start x || is_ascii_digit x ≡ false → piece_at Program (x ∷ rest) ≡ sign_at Program (x ∷ rest)
unfolding piece_at
at_sign x rest none =
    let a = or_parts (is_white x || eqb x 35 || is_quote x || is_name_start x) (is_ascii_digit x) none in
    let b = or_parts (is_white x || eqb x 35 || is_quote x) (is_name_start x) a.0 in
    let c = or_parts (is_white x || eqb x 35) (is_quote x) b.0 in
    let d = or_parts (is_white x) (eqb x 35) c.0 in
    rw (d.0, d.1, c.1, b.1, a.1) refl

-- one byte more settles which mark is the longest
abbrev IsSettled : List ℕ → Type 0
IsSettled word = (c : ℕ) (rest : List ℕ) → mark_len Program (word ++ c ∷ rest) ≡ mark_len Program (word ++ c ∷ [])

mark_settled : (word : List ℕ) → is_one_of program_marks word ≡ true → IsSettled word
unfolding mark_len
mark_settled word e = one_of IsSettled program_marks word (search rules depth 60) e

signed : (text : List ℕ) (n : ℕ) → mark_len Program text ≡ suc n → IsToken Mark (suc n) (sign_at Program text)
unfolding sign_at
signed text n e = rw e record { len = refl; solid = refl; right = refl; foreign = λ bytes. refl; tokens = λ from bytes. refl }

mark_piece : (word : List ℕ) (c : ℕ) (rest : List ℕ) → is_one_of program_marks word ≡ true → mark_len Program (word ++ c ∷ []) ≡ length word → IsToken Mark (length word) (piece_at Program (word ++ c ∷ rest))
mark_piece [] c rest form ends = absurd cc
mark_piece (x ∷ xs) c rest form ends =
    let begins = not_false (is_white x || eqb x 35 || is_quote x || is_name_start x || is_ascii_digit x) (mark_begins (x ∷ xs) form) in
    rw (at_sign x (xs ++ c ∷ rest) begins) (signed (x ∷ xs ++ c ∷ rest) (length xs) (mark_settled (x ∷ xs) form c rest ∙ ends))

pub token_piece : (k : Kind) (word : List ℕ) (c : ℕ) (rest : List ℕ) → has_form Program k word ≡ true → ends_before k word c ≡ true → IsToken k (length word) (piece_at Program (word ++ c ∷ rest))
token_piece Name word c rest form ends = name_piece word c rest form (not_false (is_name_byte c) ends)
token_piece Reserved word c rest form ends = reserved_piece word c rest form (not_false (is_name_byte c) ends)
token_piece Number word c rest form ends = number_piece word c rest form (not_false (is_name_byte c || eqb c 46) ends)
token_piece Text word c rest form ends = text_piece word (c ∷ rest) form
token_piece Mark word c rest form ends = mark_piece word c rest form (eqb-true (mark_len Program (word ++ c ∷ [])) (length word) ends)
token_piece Meta word c rest form ends = absurd cc
