use Rattle.std.proofs.Common.{◌≡◌, take}
use Rattle.std.specs.List.{flat_map}
use Rattle.test_picker.specs.Programs.{inputs_of}
use Rattle.pick_command.specs.Texts.{input_line}
use Rattle.pick_command.proofs.report.pick_text.Given as goal

-- the lines of the cases up to here
abbrev pub invariant-loop-case : goal.invariant-loop-case
invariant-loop-case l =
    l.out.items ≡ flat_map (input_line l.entry) (take l.case-index (inputs_of l.cases))
