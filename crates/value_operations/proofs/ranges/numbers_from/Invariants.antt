use Rattle.std.proofs.Common.{◌≡◌, pos, ◌+ℤ◌, ◌*ℤ◌}
use Rattle.mpy_tree.specs.Operations.{progression}
use Rattle.value_operations.proofs.ranges.numbers_from.Given as goal

abbrev pub invariant-loop-k : goal.invariant-loop-k
invariant-loop-k l = record {
  made : l.numbers.items ≡ progression l.a l.c l._k;
  next : l.next ≡ l.a +ℤ (l.c *ℤ pos l._k);
}
