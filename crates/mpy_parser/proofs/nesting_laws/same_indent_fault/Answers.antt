use Rattle.std.proofs.Common.{[]}
use Rattle.mpy_parser.proofs.Fine.{same_indents}
use Rattle.mpy_parser.proofs.nesting_laws.same_indent_fault.Goals as goal

pub returns : goal.returns
returns c = record { holds = same_indents [] }
