use Rattle.std.proofs.Common.{◌≡◌, length}
use Rattle.mpy_parser.specs.Open.{past_places}
use Rattle.mpy_parser.proofs.blocks.close.Given as goal

-- what is not deeper is still there
abbrev pub invariant-loop-nearest : goal.invariant-loop-nearest
invariant-loop-nearest l = past_places l.column l.initial.above ≡ past_places l.column l.above

abbrev pub decreases-loop-nearest : goal.decreases-loop-nearest
decreases-loop-nearest l = length l.above
