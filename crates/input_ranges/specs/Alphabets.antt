-- Characters of an alphabet, digit by digit.
use Rattle.std.specs.Prelude.{◌≡◌, ℕ, ◌/◌, ◌%◌, ◌^◌, ◌<◌, ◌==◌, Bool, false, not, List, length}
use Rattle.std.specs.Prelude.{slice_index, slice_index_or}
use Rattle.std.specs.List.{list_any}
use Rattle.input_ranges.specs.declared.alphabets.Guess.{Guess}
use Rattle.input_ranges.specs.declared.alphabets.Guess.TheVariants as guess

-- the digit of a number at a place, the lowest first
abbrev pub digit_of : ℕ → ℕ → Bool
digit_of n place = (n / 2 ^ place) % 2 == 1

-- whether a character is of an alphabet
abbrev pub is_among : List ℕ → ℕ → Bool
is_among alphabet c = list_any (λ d. d == c) alphabet

-- what is said of a character's digit
abbrev pub guessed : Guess → ℕ → Bool
guessed (guess.Constant b) c = b
guessed (guess.Same place) c = digit_of c place
guessed (guess.Opposite place) c = not (digit_of c place)

-- by digits below a place
abbrev pub IsLower : ℕ → Guess → Type 0
IsLower n (guess.Constant b) = Unit {0}
IsLower n (guess.Same place) = place < n
IsLower n (guess.Opposite place) = place < n

-- it is right of each character of an alphabet
abbrev pub IsRight : Guess → List ℕ → ℕ → Type 0
IsRight g alphabet place =
    (k : ℕ) → k < length alphabet
    → digit_of (slice_index alphabet k) place ≡ guessed g (slice_index alphabet k)

-- bits are the lowest digits of a character
abbrev pub Spells : List Bool → ℕ → Type 0
Spells bits c = (k : ℕ) → k < length bits → slice_index_or bits k false ≡ digit_of c k
