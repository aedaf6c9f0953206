use Rattle.sat_plain.proofs.Counting.{IsSumming}
use Rattle.sat_plain.proofs.occurrences.sum_up.Given as goal

abbrev pub invariant-loop-i : goal.invariant-loop-i
invariant-loop-i l = IsSumming l.fn.counts l.counts l.sum l.i
