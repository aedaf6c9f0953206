use Rattle.std.proofs.Common.{◌≡◌, ◌++◌, take}
use Rattle.input_space.specs.Inputs.{inputs}
use Rattle.test_picker.specs.Programs.{inputs_of}
use Rattle.test_picker.proofs.blocks.Setting.cases_from.Given as goal

-- the inputs in front and the cases are the inputs up to here
abbrev pub invariant-loop-i : goal.invariant-loop-i
invariant-loop-i l =
    take l.first (inputs l.self.bounds.now.params) ++ inputs_of l.cases.items
    ≡ take l.i (inputs l.self.bounds.now.params)
