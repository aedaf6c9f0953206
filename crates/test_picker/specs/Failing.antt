-- On which inputs a program fails: those on which it doesn't give what the reference gives.
use Rattle.std.specs.Prelude.{◌≡◌, ℕ, List, All, take, Option, None, Some, slice_get}
use Rattle.mpy_tree.specs.declared.value.Value.{Value}
use Rattle.mpy_tree.specs.Syntax.{Routine}
use Rattle.bounds_reader.specs.declared.bounds.Bounds.{Bounds}
use Rattle.input_space.specs.Agreement.{EndsAlike}

-- the program p fails on an input on which the reference r gives a value
abbrev pub Fails : Bounds → List Routine → List Routine → List Value → Type 0
Fails b r p x = EndsAlike b r p x → ⊥

-- it fails on the input at this place of some inputs, and on none before it
pub record FailsFirstAt (b : Bounds) (r p : List Routine) (xs : List (List Value)) (place : ℕ)
    : Type 0 where
  pub input : List Value
  pub stands : slice_get xs place ≡ Some input
  pub fails : Fails b r p input
  pub before : All (EndsAlike b r p) (take place xs)

-- where it fails first of some inputs, if it fails on any
abbrev pub IsFirstFailure : Bounds → List Routine → List Routine → List (List Value) → Option ℕ
    → Type 0
IsFirstFailure b r p xs None = All (EndsAlike b r p) xs
IsFirstFailure b r p xs (Some place) = FailsFirstAt b r p xs place
