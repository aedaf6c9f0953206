-- The cases that are chosen for programs, and the programs' marks.
use Rattle.std.specs.Prelude.{◌≡◌, ℕ, suc, List, [], ◌∷◌, ◌++◌, All, None, length, slice_get, Some}
use Rattle.mpy_tree.specs.declared.value.Value.{Value}
use Rattle.mpy_tree.specs.Syntax.{Routine}
use Rattle.bounds_reader.specs.declared.bounds.Bounds.{Bounds}
use Rattle.input_space.specs.Agreement.{Agrees, EndsAlike}
use Rattle.input_space.specs.Inputs.{inputs}
use Rattle.test_picker.specs.Failing.{FailsFirstAt}

-- The mark of a program beside cases that stand already, and the cases with what it adds. One that
-- agrees with the reference is marked 0. One that fails on a case is marked by the first such case,
-- counted from 1. One that fails on none of them, but on some input, adds the first such input.
pub data Adds (b : Bounds) (r p : List Routine) (cases : List (List Value)) : List (List Value)
    → ℕ → Type 0 where
  agrees : Agrees b r p → Adds b r p cases cases 0
  by_case : (place : ℕ) → FailsFirstAt b r p cases place → Adds b r p cases cases (suc place)
  by_input : (place : ℕ) (x : List Value) → All (EndsAlike b r p) cases
      → FailsFirstAt b r p (inputs b.params) place → slice_get (inputs b.params) place ≡ Some x
      → Adds b r p cases (cases ++ x ∷ []) (suc (length cases))

-- programs taken in order, from cases that stand already to those at the end, with their marks
pub data Chooses (b : Bounds) (r : List Routine) : List (List Value) → List (List Routine)
    → List (List Value) → List ℕ → Type 0 where
  none : (cases : List (List Value)) → Chooses b r cases [] cases []
  more : (cases next end : List (List Value)) (p : List Routine) (ps : List (List Routine))
      (mark : ℕ) (marks : List ℕ) → Adds b r p cases next mark → Chooses b r next ps end marks
      → Chooses b r cases (p ∷ ps) end (mark ∷ marks)

-- the cases that are chosen for programs, from none on, and the programs' marks
abbrev pub IsChoice : Bounds → List Routine → List (List Routine) → List (List Value) → List ℕ
    → Type 0
IsChoice b r ps cases marks = Chooses b r [] ps cases marks
