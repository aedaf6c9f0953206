use Rattle.std.proofs.Common.{length}
use Rattle.sat_plain.proofs.Undoing.{IsPopped}
use Rattle.sat_plain.proofs.search.undo.Given as goal

-- implied entries alone were taken away
abbrev pub invariant-loop-entry : goal.invariant-loop-entry
invariant-loop-entry l = IsPopped l.fn.trail l.trail

abbrev pub decreases-loop-entry : goal.decreases-loop-entry
decreases-loop-entry l = length l.trail.entries
