use Rattle.std.proofs.Common.{[]}
use Rattle.mpy_parser.proofs.Faultless.{program_fine}
use Rattle.mpy_parser.proofs.Fine.{no_indent_fault}
use Rattle.mpy_parser.proofs.nesting_laws.nested_without_indent_fault.Goals as goal

pub returns : goal.returns
returns c = record { holds = λ is rs d. no_indent_fault [] is (program_fine is rs d) }
