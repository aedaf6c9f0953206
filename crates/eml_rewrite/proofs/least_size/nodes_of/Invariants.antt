use Rattle.std.proofs.Common.{◌≤◌, length}
use Rattle.eml_rewrite.proofs.least_size.nodes_of.Given as goal

abbrev pub invariant-loop-i : goal.invariant-loop-i
invariant-loop-i l = l.i ≤ length l.fn.counted

abbrev pub decreases-loop-i : goal.decreases-loop-i
decreases-loop-i l = l.i
