use Rattle.std.proofs.Common.{◌≡◌, drop, []}
use Rattle.mpy_tree.specs.Leasts.{lesser, least}
use Rattle.mpy_lexer.specs.Lexing.{faulty_lines}
use Rattle.mpy_lexer.proofs.lexing.faulty_line.Given as goal

abbrev pub invariant-loop-row : goal.invariant-loop-row
invariant-loop-row l = lesser l.line (least (faulty_lines l.opened (drop l.row-index l.rows))) ≡ least (faulty_lines [] l.rows)
