use Rattle.std.proofs.Common.{refl}
use Rattle.sat_plain.proofs.Counting.{summing_more}
use Rattle.sat_plain.proofs.occurrences.sum_up.Goals as goal

pub loop-i-preserved : goal.loop-i-preserved
loop-i-preserved c = summing_more c.args.counts.now c.loop-i.counts c.loop-i.sum c.loop-i.i _ (rw c.loop-i.auto.counts c.loop-i-test.true) c.loop-i.auto.counts refl c.loop-i.invariant
