-- Typed programs, and what it is that they can be compared on the inputs.
use Rattle.std.specs.Prelude.{◌≡◌, List, map, Option}
use Rattle.mpy_tree.specs.declared.typing.Ty.{Ty}
use Rattle.mpy_tree.specs.Syntax.{Routine}
use Rattle.mpy_tree.specs.Typings.{IsTyping}
use Rattle.mpy_tree.specs.View.{routines_of}
use Rattle.bounds_reader.specs.declared.bounds.Bounds.{Bounds}
use Rattle.input_space.specs.declared.case.Case.{Case}
use Rattle.mpy_tree.specs.declared.value.Value.{Value}
use Rattle.input_space.specs.Tasks.{entry_at, result_type}
use Rattle.test_picker.specs.declared.typed_list.Typed.{Typed}

abbrev pub program_of : Typed → List Routine
program_of t = routines_of t.prog

abbrev pub programs_of : List Typed → List (List Routine)
programs_of = map program_of

-- the types are the program's typing, where a run within the bounds enters it
abbrev pub IsTypedFor : Bounds → Typed → Type 0
IsTypedFor b t = IsTyping t.types.facts (program_of t) (entry_at b)

-- the type of what its entry gives
abbrev pub gives_type : Bounds → Typed → Option Ty
gives_type b t = result_type b (program_of t) t.types.facts

-- the entries of two programs give results of one type
abbrev pub GiveOneType : Bounds → Typed → Typed → Type 0
GiveOneType b t u = gives_type b u ≡ gives_type b t

-- cases as the inputs that they are
abbrev pub inputs_of : List Case → List (List Value)
inputs_of = map (λ c. c.values)
