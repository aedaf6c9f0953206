use Rattle.std.proofs.Common.{◌≡◌, ◌≤◌, ◌-◌, ◌++◌, drop, length, map}
use Rattle.mpy_lexer.specs.PhysicalLines.{physical_lines}
use Rattle.bounds_reader.specs.Files.{text_lines}
use Rattle.bounds_reader.proofs.lines.text_lines.Given as goal

abbrev pub invariant-loop-at : goal.invariant-loop-at
invariant-loop-at l = record {
  within : l.at ≤ length l.bytes;
  few : length l.lines.items ≤ l.at;
  so_far : map (λ x. x.now) l.lines.items ++ physical_lines (drop l.at l.bytes) ≡ text_lines l.bytes;
}

abbrev pub decreases-loop-at : goal.decreases-loop-at
decreases-loop-at l = length l.initial.bytes - l.at
