-- The classes of bytes.
use Rattle.std.specs.Prelude.{ℕ, Bool, ◌||◌, ◌==◌}
use Rattle.std.specs.Char.{is_ascii_digit, is_ascii_alphabetic}

-- tab or space
abbrev pub is_blank : ℕ → Bool
is_blank c = c == 9 || c == 32

-- tab, line feed, carriage return or space
abbrev pub is_white : ℕ → Bool
is_white c = is_blank c || c == 10 || c == 13

abbrev pub is_quote : ℕ → Bool
is_quote c = c == 39 || c == 34

-- a letter or an underscore
abbrev pub is_name_start : ℕ → Bool
is_name_start c = is_ascii_alphabetic c || c == 95

-- a letter, a digit or an underscore
abbrev pub is_name_byte : ℕ → Bool
is_name_byte c = is_name_start c || is_ascii_digit c

-- one of a v n c o
abbrev pub is_meta_letter : ℕ → Bool
is_meta_letter c = c == 97 || c == 118 || c == 110 || c == 99 || c == 111
