-- Inputs by cases: of lists and texts one length may be fixed.
use Rattle.std.specs.Prelude.{◌≡◌, ℕ, ◌+◌, ◌*◌, ◌/◌, ◌%◌, ◌<◌, ◌≤◌, ◌==◌, Bool, true}
use Rattle.std.specs.Prelude.{false, ◌&&◌, ◌||◌, List, [], ◌∷◌, length}
use Rattle.std.specs.List.{AllZip}
use Rattle.mpy_tree.specs.declared.value.Value.{Value}
use Rattle.mpy_tree.specs.declared.value.Value.TheVariants as value
use Rattle.bounds_reader.specs.declared.params.Param.{Param}
use Rattle.input_bits.specs.declared.parts.Split.{Split}
use Rattle.input_space.specs.Inputs.{are_within, is_within}

-- a length belongs to a part of a split: there is one part alone, or it is the part's
abbrev pub has_length_of : Split → ℕ → ℕ → Bool
has_length_of s part n = s.parts == 1 || n == s.first + part

-- a value does; numbers and truth values belong to each part
abbrev pub is_in_part : Split → ℕ → Value → Bool
is_in_part s part (value.List zs) = has_length_of s part (length zs)
is_in_part s part (value.Text cs) = has_length_of s part (length cs)
is_in_part s part _ = true

-- the digits of a number are the parts of the values, the first value's the lowest
abbrev pub is_in_case : List Split → ℕ → List Value → Bool
is_in_case [] number [] = true
is_in_case (s ∷ ss) number (v ∷ vs) =
    is_in_part s (number % s.parts) v && is_in_case ss (number / s.parts) vs
is_in_case _ number _ = false

-- how many cases there are
abbrev pub cases : List Split → ℕ
cases [] = 1
cases (s ∷ ss) = s.parts * cases ss

-- each length of a range belongs to a part
abbrev pub CoversLengths : Split → ℕ → ℕ → Type 0
CoversLengths s least most =
    (n : ℕ) → least ≤ n → n ≤ most
    → (part : ℕ) × (part < s.parts) × (has_length_of s part n ≡ true)

-- each value of a parameter belongs to a part
abbrev pub Covers : Split → Param → Type 0
Covers s p =
    (v : Value) → is_within p v ≡ true
    → (part : ℕ) × (part < s.parts) × (is_in_part s part v ≡ true)

-- values belong to a case
pub record SomeCase (ss : List Split) (vs : List Value) : Type 0 where
  pub number : ℕ
  pub below : number < cases ss
  pub is_in : is_in_case ss number vs ≡ true

-- values within the ranges do
abbrev pub ValuesHaveCases : Type 0
ValuesHaveCases =
    (ss : List Split) (ps : List Param) (vs : List Value) → AllZip Covers ss ps
    → are_within ps vs ≡ true → SomeCase ss vs
