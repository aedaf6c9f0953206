-- Laws of chosen cases and marks.
use Rattle.std.specs.Prelude.{◌≡◌, ◌↔◌, ℕ, zero, suc, List, All, length, slice_get, Some}
use Rattle.mpy_tree.specs.declared.value.Value.{Value}
use Rattle.mpy_tree.specs.Syntax.{Routine}
use Rattle.bounds_reader.specs.declared.bounds.Bounds.{Bounds}
use Rattle.input_space.specs.Agreement.{Agrees, IsInput}
use Rattle.test_picker.specs.Choosing.{IsChoice}
use Rattle.test_picker.specs.Failing.{FailsFirstAt}

-- programs choose one list of cases, and have one list of marks
abbrev pub OneChoice : Type 0
OneChoice =
    (b : Bounds) (r : List Routine) (ps : List (List Routine)) (xs ys : List (List Value))
    (ms ns : List ℕ) → IsChoice b r ps xs ms → IsChoice b r ps ys ns → (xs ≡ ys) × (ms ≡ ns)

-- what a mark says of a program beside all cases: by 0 it agrees with the reference, and by another
-- number that it fails on the case of that number, and on none before it
abbrev pub IsMark : Bounds → List Routine → List (List Value) → List Routine → ℕ → Type 0
IsMark b r cases p zero = Agrees b r p
IsMark b r cases p (suc place) = FailsFirstAt b r p cases place

-- one mark for each program, which says what is so of the cases at the end; only a program that
-- agrees is marked 0; and each case is an input
pub record AreMarks (b : Bounds) (r : List Routine) (ps : List (List Routine))
    (cases : List (List Value)) (marks : List ℕ) : Type 0 where
  pub many : length marks ≡ length ps
  pub each : (i : ℕ) (p : List Routine) (m : ℕ) → slice_get ps i ≡ Some p
      → slice_get marks i ≡ Some m → IsMark b r cases p m
  pub zero : (i : ℕ) (p : List Routine) (m : ℕ) → slice_get ps i ≡ Some p
      → slice_get marks i ≡ Some m → (m ≡ 0) ↔ Agrees b r p
  pub inputs : All (IsInput b) cases

-- marks stay true of the cases at the end
abbrev pub MarksStay : Type 0
MarksStay =
    (b : Bounds) (r : List Routine) (ps : List (List Routine)) (cases : List (List Value))
    (marks : List ℕ) → IsChoice b r ps cases marks → AreMarks b r ps cases marks
