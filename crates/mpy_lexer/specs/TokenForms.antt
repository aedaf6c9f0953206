-- What the bytes of a token are, by its kind.
use Rattle.std.specs.Prelude.{ℕ, Bool, true, false, not, ◌&&◌, ◌||◌, ◌==◌, nat_eq, nat_le, List, []}
use Rattle.std.specs.Prelude.{◌∷◌, length, Option, Some, None}
use Rattle.std.specs.Char.{is_ascii_digit}
use Rattle.std.specs.Cmp.Lexicographic.{pointwise}
use Rattle.std.specs.List.{list_all, list_any}
use Rattle.mpy_lexer.specs.declared.forms.Form.{Form}
use Rattle.mpy_lexer.specs.declared.forms.Form.TheVariants.{Program, Rules}
use Rattle.mpy_lexer.specs.declared.forms.Kind.{Kind}
use Rattle.mpy_lexer.specs.declared.forms.Kind.TheVariants.{Name, Reserved, Number, Text, Mark}
use Rattle.mpy_lexer.specs.declared.forms.Kind.TheVariants.{Meta}
use Rattle.mpy_lexer.specs.Bytes.{is_quote, is_name_start, is_name_byte, is_meta_letter}
use Rattle.mpy_lexer.specs.Words.{is_reserved, marks}
use Rattle.mpy_lexer.specs.Pieces.{closing, has_wrong_escape, number_value}

-- a letter or an underscore, and then letters, digits and underscores
abbrev pub is_name : List ℕ → Bool
is_name [] = false
is_name (c ∷ rest) = is_name_start c && list_all is_name_byte rest

abbrev pub is_none_behind : ℕ → List ℕ → Bool
is_none_behind c [] = true
is_none_behind c (d ∷ rest) = not (c == 48)

-- 0, or digits that don't begin with it, at most 2147483647
abbrev pub is_number : List ℕ → Bool
is_number [] = false
is_number (c ∷ rest) =
    list_all is_ascii_digit (c ∷ rest) && is_none_behind c rest
    && nat_le (number_value (c ∷ rest)) 2147483647

abbrev pub is_length : ℕ → Option ℕ → Bool
is_length n None = false
is_length n (Some m) = m == n

-- a quote, and bytes of which the last is the first one that closes it
abbrev pub is_text : List ℕ → Bool
is_text [] = false
is_text (quote ∷ body) =
    is_quote quote && is_length (length body) (closing quote false body)
    && not (has_wrong_escape false body)

-- perhaps a digit, and perhaps a prime
abbrev pub is_meta_end : List ℕ → Bool
is_meta_end [] = true
is_meta_end (c ∷ []) = is_ascii_digit c || c == 39
is_meta_end (c ∷ d ∷ []) = is_ascii_digit c && d == 39
is_meta_end (c ∷ d ∷ e ∷ rest) = false

abbrev pub is_meta : List ℕ → Bool
is_meta [] = false
is_meta (c ∷ []) = false
is_meta (c ∷ letter ∷ rest) = c == 36 && is_meta_letter letter && is_meta_end rest

abbrev pub is_one_of : List (List ℕ) → List ℕ → Bool
is_one_of words bytes = list_any (λ w. pointwise nat_eq w bytes) words

abbrev pub has_form : Form → Kind → List ℕ → Bool
has_form form Name bytes = is_name bytes && not (is_reserved bytes)
has_form form Reserved bytes = is_reserved bytes
has_form form Number bytes = is_number bytes
has_form form Text bytes = is_text bytes
has_form form Mark bytes = is_one_of (marks form) bytes
has_form Program Meta bytes = false
has_form Rules Meta bytes = is_meta bytes
