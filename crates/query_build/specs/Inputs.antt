-- Inputs whose bits are variables.
use Rattle.std.specs.Prelude.{ℕ, Bool, false, List, map, Option}
use Rattle.std.specs.Cmp.Lexicographic.{pointwise}
use Rattle.std.specs.List.{list_any}
use Rattle.std.specs.Option.{option_map_or}
use Rattle.mpy_tree.specs.declared.value.Value.{Value}
use Rattle.mpy_tree.specs.Operations.{below}
use Rattle.bounds_reader.specs.declared.bounds.Bounds.{Bounds}
use Rattle.bounds_reader.specs.declared.params.Param.{Param}
use Rattle.input_bits.specs.declared.parts.Split.{Split}
use Rattle.input_bits.specs.Cases.{is_in_case}
use Rattle.input_bits.specs.Known.{is_right}
use Rattle.input_space.specs.Inputs.{are_within, param_type}
use Rattle.input_space.specs.ValueBits.{values_at}
use Rattle.sym_values.specs.Reading.{Reading}

-- the values that truth values spell, whatever the ranges say
abbrev pub values_in : Bounds → List Bool → Option (List Value)
values_in b vs = values_at b.limits (map param_type b.params) vs 0

-- truth values spell values within the ranges
abbrev pub spells_input : Bounds → List Bool → Bool
spells_input b vs = option_map_or (are_within b.params) (values_in b vs) false

-- readings are values of the parameters
abbrev pub are_right : List Param → List Reading → Bool
are_right = pointwise is_right

-- values belong to one of the first so many cases
abbrev pub is_in_cases : List Split → ℕ → List Value → Bool
is_in_cases splits count xs = list_any (λ number. is_in_case splits number xs) (below count)
