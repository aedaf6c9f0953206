-- Values and printed values of ends as constant bits.
use Rattle.std.specs.Prelude.{◌≡◌, Bool, List, option_map, option_to_list, Option, Some}
use Rattle.mpy_tree.specs.declared.limits.Limits.{Limits}
use Rattle.mpy_tree.specs.declared.typing.Ty.{Ty}
use Rattle.mpy_tree.specs.declared.value.Value.{Value}
use Rattle.bit_words.specs.Logic.{OwnsAll}
use Rattle.sym_values.specs.declared.done.PrintSlot.{PrintSlot}
use Rattle.sym_values.specs.declared.value.SymValue.{SymValue}
use Rattle.sym_values.specs.Forms.{form_for, form_of, values_bits}
use Rattle.sym_values.specs.Printed.{HaveWidths, slots_bits}
use Rattle.sym_values.specs.Reading.{read, sure}

-- printed values whose bits belong to a state of the logic, of the widths that the limits say
pub record AreSlotsIn {S B : Type 0} (owns : S → B → Type 0) (s : S) (l : Limits)
    (slots : List (PrintSlot B)) : Type 0 where
  pub owned : OwnsAll owns s (slots_bits slots)
  pub widths : HaveWidths l slots

-- a value of a type, if there is one, which reads as this one, if there is one
pub record IsConstantResult {S B : Type 0} (owns : S → B → Type 0)
    (reads : S → List Bool → B → Bool) (s : S) (l : Limits) (t : Option Ty) (v : Option Value)
    (x : Option (SymValue B)) : Type 0 where
  pub owned : OwnsAll owns s (values_bits (option_to_list x))
  pub form : option_map form_of x ≡ option_map (form_for l) t
  pub read_as : (vs : List Bool) (u : Value) → v ≡ Some u
      → option_map (read (reads s vs)) x ≡ Some (sure u)
