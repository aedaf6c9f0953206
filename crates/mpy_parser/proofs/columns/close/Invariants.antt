use Rattle.std.proofs.Common.{◌≡◌, length}
use Rattle.mpy_parser.specs.Open.{past}
use Rattle.mpy_parser.proofs.columns.close.Given as goal

-- what is not deeper is still there
abbrev pub invariant-loop-nearest : goal.invariant-loop-nearest
invariant-loop-nearest l = past l.column l.initial.above ≡ past l.column l.above

abbrev pub decreases-loop-nearest : goal.decreases-loop-nearest
decreases-loop-nearest l = length l.above
