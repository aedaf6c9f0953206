-- What is found of programs on the first inputs of the order.
use Rattle.std.specs.Prelude.{◌≡◌, ℕ, Bool, true, false, List, All, length, slice_get, Some, Option}
use Rattle.std.specs.List.{list_any}
use Rattle.mpy_tree.specs.declared.value.Value.{Value}
use Rattle.mpy_tree.specs.Outcomes.{is_done}
use Rattle.mpy_tree.specs.Syntax.{Routine}
use Rattle.bounds_reader.specs.declared.bounds.Bounds.{Bounds}
use Rattle.input_space.specs.Agreement.{ends_on}
use Rattle.test_picker.specs.declared.search.Found.{Found}
use Rattle.test_picker.specs.Failing.{IsFirstFailure}

-- whether a program ends with a value on some of these inputs
abbrev pub ends_on_some : Bounds → List Routine → List (List Value) → Bool
ends_on_some b r xs = list_any (λ x. is_done (ends_on b r x)) xs

-- where each program fails first of these inputs, and whether the reference ends on any
pub record IsFoundOn (b : Bounds) (r : List Routine) (ps : List (List Routine))
    (xs : List (List Value)) (f : Found) : Type 0 where
  pub many : length f.firsts.items ≡ length ps
  pub each : (i : ℕ) (p : List Routine) (first : Option ℕ) → slice_get ps i ≡ Some p
      → slice_get f.firsts.items i ≡ Some first → IsFirstFailure b r p xs first
  pub ended : f.ended ≡ ends_on_some b r xs
