use Rattle.std.proofs.Common.{◌≡◌, ◌≤◌, ◌+◌, ◌-◌, drop, length}
use Rattle.mpy_lexer.specs.Pieces.{parts}
use Rattle.mpy_lexer.proofs.LineParts.{seen_with, nothing}
use Rattle.mpy_lexer.proofs.rows.row_of.Given as goal

abbrev pub invariant-loop-at : goal.invariant-loop-at
invariant-loop-at l = record {
  within : l.at ≤ length l.line;
  so_far : seen_with l.seen (parts l.form (l.from + l.at) 0 (drop l.at l.line)) ≡ seen_with nothing (parts l.form l.from 0 l.line);
}

abbrev pub decreases-loop-at : goal.decreases-loop-at
decreases-loop-at l = length l.initial.line - l.at
