-- The characters that a text literal spells.
use Rattle.std.specs.Prelude.{ℕ, Bool, false, ◌&&◌, ◌||◌, ◌==◌, nat_le, List, [], ◌∷◌}
use Rattle.std.specs.Prelude.{Option, Some, None, option_map, if◌then◌else◌}
use Rattle.mpy_lexer.specs.Bytes.{is_quote}

-- a byte from space to tilde
abbrev pub is_printable : ℕ → Bool
is_printable c = nat_le 32 c && nat_le c 126

-- a backslash, a single or a double quote
abbrev pub is_escapable : ℕ → Bool
is_escapable c = c == 92 || is_quote c

-- The next character of a literal, and what stands behind it: a backslash stands before a backslash
-- or a quote, each other printable character for itself. Nothing where the last byte is reached, at
-- a closing quote, and at what no literal has.
abbrev pub character_at : ℕ → List ℕ → Option (ℕ × List ℕ)
character_at quote [] = None
character_at quote (c ∷ []) = None
character_at quote (c ∷ d ∷ rest) =
    if c == quote then None
    else if c == 92 then (if is_escapable d then Some (d, rest) else None)
    else if is_printable c then Some (c, d ∷ rest)
    else None

abbrev pub with_character : ℕ → Option (List ℕ) → Option (List ℕ)
with_character c cs = option_map (λ rest. c ∷ rest) cs

-- the closing quote alone
abbrev pub is_last : ℕ → List ℕ → Bool
is_last quote (c ∷ []) = c == quote
is_last quote _ = false

-- the characters up to the closing quote, which is the last byte
unfoldable pub characters : ℕ → List ℕ → Option (List ℕ)
characters quote [] = None
characters quote (c ∷ []) = if c == quote then Some [] else None
characters quote (c ∷ d ∷ rest) =
    if c == quote then None
    else if c == 92 then (if is_escapable d then with_character d (characters quote rest) else None)
    else if is_printable c then with_character c (characters quote (d ∷ rest))
    else None

-- the characters between the quotes of a literal, if the bytes are one
abbrev pub literal_characters : List ℕ → Option (List ℕ)
literal_characters [] = None
literal_characters (q ∷ rest) = if is_quote q then characters q rest else None
