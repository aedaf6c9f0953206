use Rattle.std.proofs.Common.{◌≡◌, [], length}
use Rattle.mpy_parser.specs.Faults.{indent_fault}
use Rattle.mpy_parser.proofs.Falls.{column_fault}
use Rattle.mpy_parser.proofs.columns.indent_fault.Given as goal

-- the first fault of all is that of the rest
abbrev pub invariant-loop-rest : goal.invariant-loop-rest
invariant-loop-rest l = indent_fault [] l.lines ≡ column_fault l.above l.rest

abbrev pub decreases-loop-rest : goal.decreases-loop-rest
decreases-loop-rest l = length l.rest
