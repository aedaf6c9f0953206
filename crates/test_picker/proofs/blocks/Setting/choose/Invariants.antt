use Rattle.std.proofs.Common.{take}
use Rattle.test_picker.specs.Choosing.{IsChoice}
use Rattle.test_picker.specs.Programs.{inputs_of}
use Rattle.test_picker.specs.Settings.{bounds_of, reference_of, routines_in}
use Rattle.test_picker.proofs.blocks.Setting.choose.Given as goal

-- the cases and the marks of the programs up to here
abbrev pub invariant-loop-i : goal.invariant-loop-i
invariant-loop-i l =
    IsChoice (bounds_of l.self) (reference_of l.self) (take l.i (routines_in l.programs))
    (inputs_of l.cases) l.marks.items
