use Rattle.std.proofs.Common.{take}
use Rattle.std.specs.Prelude.{All}
use Rattle.input_space.specs.Agreement.{EndsAlike}
use Rattle.test_picker.specs.Programs.{inputs_of, program_of}
use Rattle.test_picker.specs.Settings.{bounds_of, reference_of}
use Rattle.test_picker.proofs.blocks.Setting.first_among.Given as goal

-- the program fails on none of the cases up to here
abbrev pub invariant-loop-i : goal.invariant-loop-i
invariant-loop-i l =
    All (EndsAlike (bounds_of l.self) (reference_of l.self) (program_of l.typed))
    (take l.i (inputs_of l.cases))
