-- The types of a function's locals, and the forms of their values.
use Rattle.std.specs.Prelude.{◌≡◌, ◌⊎◌, ℕ, zero, suc, ◌==◌, List, [], ◌∷◌, ◌++◌, map, replicate}
use Rattle.std.specs.Prelude.{Option, Some, None, slice_get, option_map, if◌then◌else◌}
use Rattle.mpy_tree.specs.declared.limits.Limits.{Limits}
use Rattle.mpy_tree.specs.declared.typing.Ty.{Ty}
use Rattle.mpy_tree.specs.declared.value.Value.{Value}
use Rattle.sym_values.specs.Forms.{Form, IntForm, form_for}
use Rattle.sym_values.specs.Printed.{print_width}
use Rattle.sym_paths.specs.declared.slots.Slots.{Slots}
use Rattle.mpy_tree.specs.Locals.{place_of}

-- what is kept of printed values, where so many may be: their number, and a word for each
abbrev pub print_forms : Limits → ℕ → List Form
print_forms l zero = []
print_forms l (suc n) = IntForm 5 ∷ replicate (suc n) (IntForm (print_width l))

-- the forms of the locals' values, in their order, and then of what is kept of printed values
abbrev pub local_forms : Slots → List Form
local_forms c = map (form_for c.limits) c.types

abbrev pub slot_forms : Slots → List Form
slot_forms c = local_forms c ++ print_forms c.limits c.prints

-- the form of the result, if it has a type
abbrev pub result_form : Slots → Option Form
result_form c = option_map (form_for c.limits) c.result

-- printed values are kept as the limits say, or none are
abbrev pub KeepsByLimits : Slots → Type 0
KeepsByLimits c = (c.prints ≡ 0) ⊎ (c.prints ≡ c.limits.prints)

-- what is kept at first
abbrev pub kept_by : Slots → Option (List Value)
kept_by c = if c.prints == 0 then None else Some []

-- the type at a place
abbrev pub type_at : List Ty → Option ℕ → Option Ty
type_at types None = None
type_at types (Some i) = slice_get types i

-- the type of a name among names with these types
abbrev pub type_among : List (List ℕ) → List Ty → List ℕ → Option Ty
type_among names types x = type_at types (place_of names x)
