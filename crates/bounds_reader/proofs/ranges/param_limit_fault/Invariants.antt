use Rattle.std.proofs.Common.{◌≡◌, drop}
use Rattle.bounds_reader.specs.Files.{param_limit_fault}
use Rattle.bounds_reader.specs.Views.{param_lines}
use Rattle.bounds_reader.proofs.ranges.param_limit_fault.Given as goal

abbrev pub invariant-loop-before : goal.invariant-loop-before
invariant-loop-before l =
    param_limit_fault l.before (param_lines (drop l.before l.params)) ≡ param_limit_fault 0 (param_lines l.params)
