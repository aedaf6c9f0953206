use Rattle.std.proofs.Common.{◌≡◌, reverse, vec_len}
use Rattle.mpy_tree.specs.Leasts.{lesser, least}
use Rattle.mpy_lexer.proofs.LeastLaws.{open_lines}
use Rattle.mpy_lexer.proofs.brackets.Brackets.least_line.Given as goal

abbrev pub invariant-loop-bracket : goal.invariant-loop-bracket
invariant-loop-bracket l = lesser l.line (least (open_lines (reverse l.items.items))) ≡ least (open_lines l.fn.self)

abbrev pub decreases-loop-bracket : goal.decreases-loop-bracket
decreases-loop-bracket l = vec_len l.items
