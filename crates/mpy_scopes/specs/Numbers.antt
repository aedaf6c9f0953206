-- The numbers of names and slots.
use Rattle.std.specs.Prelude.{ℕ, ◌+◌, List, [], ◌∷◌, length, Option, Some, None, if◌then◌else◌}
use Rattle.std.specs.Option.{option_map}
use Rattle.mpy_tree.specs.Values.{same_bytes}
use Rattle.mpy_tree.specs.declared.typing.Slot.{Slot}
use Rattle.mpy_tree.specs.declared.typing.Slot.TheVariants.{Local, Result}
use Rattle.mpy_tree.specs.Syntax.{Routine}
use Rattle.mpy_tree.specs.SetTypes.{same_place}
use Rattle.mpy_tree.specs.Locals.{locals}
use Rattle.mpy_tree.specs.Faults.{Place, slots}

-- the place of the first name that is x, counted from 0
abbrev pub position : List ℕ → List (List ℕ) → Option ℕ
position x [] = None
position x (y ∷ ys) = if same_bytes x y then Some 0 else option_map (λ k. k + 1) (position x ys)

-- the number of the first slot of a list that is this one, where they are counted from c on
abbrev pub number_from : ℕ → List Place → ℕ → Slot → Option ℕ
number_from c [] j y = None
number_from c (s ∷ ss) j y =
    if same_place s.func s.slot j y then Some c else number_from (c + 1) ss j y

-- the number of a slot of a program
unfoldable pub number : List Routine → ℕ → Slot → Option ℕ
number p j y = number_from 0 (slots p) j y

-- of each function the number of its first slot, and its locals
pub record Room : Type 0 where
  pub first : ℕ
  pub names : List (List ℕ)

abbrev pub room : ℕ → List (List ℕ) → Room
room c xs = record { first = c; names = xs }

-- the number of a slot by its function's room
abbrev pub in_room : Room → Slot → Option ℕ
in_room R (Local x) = option_map (λ k. R.first + k) (position x R.names)
in_room R Result = Some (R.first + length R.names)

abbrev pub rooms_from : ℕ → List Routine → List Room
rooms_from c [] = []
rooms_from c (r ∷ rs) =
    room c (locals r) ∷ rooms_from (c + (length (locals r) + 1)) rs
