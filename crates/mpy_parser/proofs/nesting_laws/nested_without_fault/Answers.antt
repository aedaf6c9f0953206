use Rattle.std.proofs.Common.{[]}
use Rattle.mpy_parser.proofs.Fine.{fine_lines}
use Rattle.mpy_parser.proofs.Nests.{nests}
use Rattle.mpy_parser.proofs.nesting_laws.nested_without_fault.Goals as goal

pub returns : goal.returns
returns c = record { holds = λ is i b. nests is (fine_lines [] is i b) }
