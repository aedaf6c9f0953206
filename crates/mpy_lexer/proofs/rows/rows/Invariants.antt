use Rattle.std.proofs.Common.{◌≡◌, ◌≤◌, ◌+◌, ◌-◌, ◌++◌, drop, length}
use Rattle.mpy_lexer.specs.PhysicalLines.{physical_lines, rows_of, rows}
use Rattle.mpy_lexer.proofs.rows.rows.Given as goal

abbrev pub invariant-loop-at : goal.invariant-loop-at
invariant-loop-at l = record {
  within : l.at ≤ length l.bytes;
  few : l.number ≤ l.at + 1;
  so_far : l.rows.items ++ rows_of l.form l.number l.at (physical_lines (drop l.at l.bytes)) ≡ rows l.form l.bytes;
}

abbrev pub decreases-loop-at : goal.decreases-loop-at
decreases-loop-at l = length l.initial.bytes - l.at
