-- The inputs within the bounds: all lists of values, one for each parameter.
use Rattle.std.specs.Prelude.{ℕ, suc, ◌+◌, ◌-◌, ◌==◌, Bool, true, false, ◌&&◌, nat_le, length, map}
use Rattle.std.specs.Prelude.{List, [], ◌∷◌, replicate, if◌then◌else◌, ℤ, pos, ◌+ℤ◌, ◌-ℤ◌, nat_abs}
use Rattle.std.specs.Prelude.{int_le}
use Rattle.std.specs.Cmp.Lexicographic.{pointwise}
use Rattle.std.specs.List.{flat_map, list_all, list_any}
use Rattle.mpy_tree.specs.declared.typing.Ty.{Ty}
use Rattle.mpy_tree.specs.declared.typing.Ty.TheVariants as ty
use Rattle.mpy_tree.specs.declared.value.Value.{Value}
use Rattle.mpy_tree.specs.declared.value.Value.TheVariants as value
use Rattle.mpy_tree.specs.Operations.{below}
use Rattle.bounds_reader.specs.declared.params.Param.{Param}
use Rattle.bounds_reader.specs.declared.params.Param.TheVariants as param

-- an element of each list, in all ways; that of the last list varies fastest
abbrev pub tuples : {A : Type 0} → List (List A) → List (List A)
tuples [] = [] ∷ []
tuples (xs ∷ rest) = flat_map (λ x. map (λ ys. x ∷ ys) (tuples rest)) xs

-- how many whole numbers there are from low to high
abbrev pub span : ℤ → ℤ → ℕ
span low high = if int_le low high then suc (nat_abs (high -ℤ low)) else 0

-- the whole numbers from low to high, rising
abbrev pub numbers : ℤ → ℤ → List ℤ
numbers low high = map (λ k. low +ℤ pos k) (below (span low high))

-- the lists of least to most elements of xs: by length, then element by element, each in the order
-- of xs
abbrev pub lists_over : {A : Type 0} → ℕ → ℕ → List A → List (List A)
lists_over least most xs =
    flat_map (λ k. tuples (replicate (least + k) xs)) (below (suc most - least))

-- the values that a parameter may have, in order
abbrev pub values_of : Param → List Value
values_of (param.Int low high) = map value.Int (numbers low high)
values_of param.Bool = value.Bool false ∷ value.Bool true ∷ []
values_of (param.List least most low high) =
    map value.List (lists_over least most (numbers low high))
values_of (param.Text least most alphabet) = map value.Text (lists_over least most alphabet)

-- all lists of values, one for each parameter; the value of the last parameter varies fastest
abbrev pub inputs : List Param → List (List Value)
inputs ps = tuples (map values_of ps)

abbrev pub param_type : Param → Ty
param_type (param.Int low high) = ty.Int
param_type param.Bool = ty.Bool
param_type (param.List least most low high) = ty.List
param_type (param.Text least most alphabet) = ty.Text

abbrev pub is_between : ℤ → ℤ → ℤ → Bool
is_between low high z = int_le low z && int_le z high

abbrev pub has_length : {A : Type 0} → ℕ → ℕ → List A → Bool
has_length least most xs = nat_le least (length xs) && nat_le (length xs) most

-- whether a value is one of the parameter: of its type, and within its ranges
abbrev pub is_within : Param → Value → Bool
is_within (param.Int low high) (value.Int z) = is_between low high z
is_within param.Bool (value.Bool b) = true
is_within (param.List least most low high) (value.List zs) =
    has_length least most zs && list_all (is_between low high) zs
is_within (param.Text least most alphabet) (value.Text cs) =
    has_length least most cs && list_all (λ c. list_any (λ d. d == c) alphabet) cs
is_within _ _ = false

-- whether there is a value for each parameter, within its ranges
abbrev pub are_within : List Param → List Value → Bool
are_within = pointwise is_within
