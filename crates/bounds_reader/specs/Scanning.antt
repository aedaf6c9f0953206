-- Numbers and text literals read from the left: what stands at the front of a text, and the rest.
use Rattle.std.specs.Prelude.{ℕ, zero, suc, ◌+◌, false, not, ◌&&◌, ◌||◌, ◌==◌, Bool, nat_le, List}
use Rattle.std.specs.Prelude.{[], ◌∷◌}
use Rattle.std.specs.Prelude.{length, take, drop, ℤ, pos, negsuc, Option, Some, None, option_map}
use Rattle.std.specs.Prelude.{option_and_then}
use Rattle.std.specs.Prelude.{if◌then◌else◌}
use Rattle.std.specs.Char.{is_ascii_digit}
use Rattle.std.specs.List.{prefix_len}
use Rattle.mpy_lexer.specs.Bytes.{is_quote}
use Rattle.mpy_lexer.specs.Pieces.{number_value, closing}
use Rattle.mpy_lexer.specs.TextLiterals.{literal_characters}

-- goes on with what was read, or ends with nothing
infixl 10 ◌>>=◌
abbrev pub ◌>>=◌ : {A B : Type 0} → Option A → (A → Option B) → Option B
o >>= f = option_and_then f o

-- one to ten digits, of which the first of several isn't 0
abbrev pub is_numeral : List ℕ → Bool
is_numeral [] = false
is_numeral (c ∷ cs) = nat_le (length cs) 9 && (not (c == 48) || length cs == 0)

-- the number that the digits write, if it is at most the limit
unfoldable pub numeral_of : ℕ → List ℕ → Option ℕ
numeral_of limit ds =
    if is_numeral ds && nat_le (number_value ds) limit then Some (number_value ds) else None

abbrev pub digits_len : List ℕ → ℕ
digits_len text = prefix_len is_ascii_digit text

-- all digits at the front as a number, and the rest
unfoldable pub numeral_at : ℕ → List ℕ → Option (ℕ × List ℕ)
numeral_at limit text =
    option_map (λ n. (n, drop (digits_len text) text))
    (numeral_of limit (take (digits_len text) text))

-- the number behind a minus, which isn't 0
abbrev pub negated : ℕ → Option ℤ
negated zero = None
negated (suc n) = Some (negsuc n)

abbrev pub negated_at : List ℕ → Option (ℤ × List ℕ)
negated_at text = do
  n ← numeral_at 2147483648 text
  z ← negated n.0
  Some (z, n.1)

abbrev pub unsigned_at : List ℕ → Option (ℤ × List ℕ)
unsigned_at text = option_map (λ n. (pos n.0, n.1)) (numeral_at 2147483647 text)

-- the number from -2147483648 to 2147483647 at the front, and the rest
unfoldable pub signed_at : List ℕ → Option (ℤ × List ℕ)
signed_at [] = None
signed_at (c ∷ rest) = if c == 45 then negated_at rest else unsigned_at (c ∷ rest)

-- the literal that ends behind the closing quote
abbrev pub closed_at : List ℕ → Option ℕ → Option (List ℕ × List ℕ)
closed_at text None = None
closed_at text (Some n) =
    option_map (λ cs. (cs, drop (1 + n) text)) (literal_characters (take (1 + n) text))

-- the characters of the text literal at the front, and the rest
unfoldable pub literal_at : List ℕ → Option (List ℕ × List ℕ)
literal_at [] = None
literal_at (q ∷ body) = if is_quote q then closed_at (q ∷ body) (closing q false body) else None
