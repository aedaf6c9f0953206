use Rattle.std.proofs.Common.{◌≡◌, drop}
use Rattle.bounds_reader.specs.Files.{param_range_fault}
use Rattle.bounds_reader.specs.Views.{param_lines}
use Rattle.bounds_reader.proofs.ranges.param_range_fault.Given as goal

abbrev pub invariant-loop-p : goal.invariant-loop-p
invariant-loop-p l =
    param_range_fault l.width l.cap (param_lines (drop l.p-index l.params))
    ≡ param_range_fault l.width l.cap (param_lines l.params)
