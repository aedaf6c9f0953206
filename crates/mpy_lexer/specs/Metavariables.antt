-- The parts of a metavariable of rules.
use Rattle.std.specs.Prelude.{◌≡◌, ℕ, Bool, true, false, List, [], ◌∷◌, ◌++◌, IfSome}
use Rattle.std.specs.Char.{is_ascii_digit}
use Rattle.std.specs.Option.{option_to_list}
use Rattle.mpy_lexer.specs.declared.metavariables.Metavariable.{Metavariable}
use Rattle.mpy_lexer.specs.Bytes.{is_meta_letter}

abbrev pub prime : Bool → List ℕ
prime true = 39 ∷ []
prime false = []

-- `$`, the letter, the digit if there is one, and the prime if there is one
abbrev pub spelling : Metavariable → List ℕ
spelling m = 36 ∷ m.letter ∷ (option_to_list m.digit ++ prime m.is_primed)

-- the letter is one of those that a metavariable has, and its digit is a digit
abbrev pub IsMetavariable : Metavariable → Type 0
IsMetavariable m = (is_meta_letter m.letter ≡ true) × IfSome m.digit (λ d. is_ascii_digit d ≡ true)
