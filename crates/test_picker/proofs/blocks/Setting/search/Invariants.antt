use Rattle.std.proofs.Common.{◌*◌, take}
use Rattle.input_space.specs.Inputs.{inputs}
use Rattle.test_picker.specs.Findings.{IsFoundOn}
use Rattle.test_picker.specs.Settings.{bounds_of, reference_of, routines_in}
use Rattle.test_picker.proofs.blocks.Setting.search.Given as goal

-- what is found of the inputs of the blocks up to here
abbrev pub invariant-loop-k : goal.invariant-loop-k
invariant-loop-k l =
    IsFoundOn (bounds_of l.self) (reference_of l.self) (routines_in l.programs)
    (take (l.k * 64) (inputs l.self.bounds.now.params)) l.found
