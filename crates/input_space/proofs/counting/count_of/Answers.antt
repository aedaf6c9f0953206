use Rattle.std.proofs.Common.{arith}
use Rattle.input_space.proofs.Totals.{counted_next}
use Rattle.input_space.proofs.counting.count_of.Goals as goal

pub loop-p-preserved : goal.loop-p-preserved
loop-p-preserved c = (
  counted_next 1000000000000 c.loop-p.count c.loop-p.p-index _ _ _ c.args.params.now _ c.loop-p-test.true c.p-item.is c.values_count.ensures c.product-count.ensures c.loop-p.invariant.0,
  omega (arith, c.product-count.ensures),
)
