-- The words of a physical line.
use Rattle.std.specs.Prelude.{◌≡◌, ℕ, Bool, true, false, not, ◌||◌, ◌==◌, List, [], ◌∷◌, ◌++◌}
use Rattle.std.specs.Prelude.{Some, if◌then◌else◌}
use Rattle.std.specs.List.{list_all}
use Rattle.mpy_lexer.specs.Bytes.{is_white, is_quote}
use Rattle.mpy_lexer.specs.TextLiterals.{literal_characters}

-- A word: bytes that stand for themselves, or the characters that a text literal spells.
pub data Word : Type 0 where
  plain : (bytes : List ℕ) → Word
  literal : (characters : List ℕ) → Word

-- neither white space nor a quote, and not the `#` of a comment
abbrev pub is_plain : ℕ → Bool
is_plain c = not (is_white c || is_quote c || c == 35)

abbrev pub are_plain : List ℕ → Bool
are_plain [] = false
are_plain (c ∷ cs) = list_all is_plain (c ∷ cs)

abbrev pub SpellsWord : List ℕ → Word → Type 0
SpellsWord bytes (plain w) = (bytes ≡ w) × (are_plain w ≡ true)
SpellsWord bytes (literal cs) = literal_characters bytes ≡ Some cs

-- the end of the line, white space or a comment
abbrev pub ends_word : List ℕ → Bool
ends_word [] = true
ends_word (c ∷ rest) = is_white c || c == 35

-- white space, and perhaps a comment behind it
abbrev pub carries_nothing : List ℕ → Bool
carries_nothing [] = true
carries_nothing (c ∷ rest) = if is_white c then carries_nothing rest else c == 35

-- behind white space the line begins with the word, and goes on with the rest
pub record BeginsWith (line : List ℕ) (w : Word) (rest : List ℕ) : Type 0 where
  pub space : List ℕ
  pub bytes : List ℕ
  pub cut : line ≡ space ++ bytes ++ rest
  pub white : list_all is_white space ≡ true
  pub spelled : SpellsWord bytes w
  pub apart : ends_word rest ≡ true

-- the line carries these words, in order, and no other
abbrev pub Carries : List ℕ → List Word → Type 0
Carries line [] = carries_nothing line ≡ true
Carries line (w ∷ ws) = (rest : List ℕ) × BeginsWith line w rest × Carries rest ws
