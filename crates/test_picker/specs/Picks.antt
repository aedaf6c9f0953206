-- What the picker answers.
use Rattle.std.specs.Prelude.{ℕ, List}
use Rattle.bounds_reader.specs.declared.bounds.Bounds.{Bounds}
use Rattle.input_space.specs.Agreement.{EndsSomewhere}
use Rattle.test_picker.specs.declared.picking.Picked.{Picked}
use Rattle.test_picker.specs.declared.picking.Picked.TheVariants as picked
use Rattle.test_picker.specs.declared.typed_list.Typed.{Typed}
use Rattle.test_picker.specs.Choosing.{IsChoice}
use Rattle.test_picker.specs.Programs.{inputs_of, program_of, programs_of}

-- The cases and the marks are those that the programs choose, and the reference ends on some input;
-- or it ends on none; or memory lacked.
abbrev pub IsPicked : Bounds → Typed → List Typed → Picked → Type 0
IsPicked b r others (picked.Picked cases marks) =
    IsChoice b (program_of r) (programs_of others) (inputs_of cases) marks
    × EndsSomewhere b (program_of r)
IsPicked b r others picked.EmptyReference = EndsSomewhere b (program_of r) → ⊥
IsPicked b r others picked.NoMemory = Unit {0}
