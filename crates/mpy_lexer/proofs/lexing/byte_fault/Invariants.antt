use Rattle.std.proofs.Common.{◌≡◌, drop}
use Rattle.mpy_lexer.specs.Lexing.{byte_fault}
use Rattle.mpy_lexer.proofs.lexing.byte_fault.Given as goal

abbrev pub invariant-loop-row : goal.invariant-loop-row
invariant-loop-row l = byte_fault (drop l.row-index l.rows) ≡ byte_fault l.rows
