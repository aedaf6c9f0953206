use Rattle.std.proofs.Common.{◌≡◌, []}
use Rattle.std.specs.Vec.Iter.{into_iter_items}
use Rattle.mpy_lexer.specs.Lexing.{logical_lines}
use Rattle.mpy_lexer.proofs.Joining.{joined}
use Rattle.mpy_lexer.proofs.lexing.logical_lines.Given as goal

abbrev pub invariant-loop-row : goal.invariant-loop-row
invariant-loop-row l = joined l.lines.items l.opened (into_iter_items l.row-iterator) ≡ logical_lines [] l.fn.rows.items
