-- The lowest binary digits of a number, and of the items of a value.
use Rattle.std.specs.Prelude.{ℕ, zero, suc, ◌/◌, Bool, List, [], ◌∷◌, map}
use Rattle.mpy_tree.specs.declared.value.Value.{Value}
use Rattle.mpy_tree.specs.Operations.{below}
use Rattle.bit_lanes.specs.Columns.{item_of}
use Rattle.bit_lanes.specs.Lane.{lane_bit}

-- so many of them, the lowest first
abbrev pub digits_of : ℕ → ℕ → List Bool
digits_of zero number = []
digits_of (suc count) number = lane_bit number 0 ∷ digits_of count (number / 2)

-- those of so many items of a list or a text
abbrev pub items_digits : ℕ → ℕ → Value → List (List Bool)
items_digits cap count v = map (λ i. digits_of count (item_of i v)) (below cap)
