use Rattle.std.proofs.Common.{◌≡◌, drop}
use Rattle.mpy_lexer.specs.Lexing.{length_fault}
use Rattle.mpy_lexer.proofs.lexing.length_fault.Given as goal

abbrev pub invariant-loop-line : goal.invariant-loop-line
invariant-loop-line l = length_fault (drop l.line-index l.lines) ≡ length_fault l.lines
