use Rattle.std.proofs.Common.{◌≡◌, take}
use Rattle.mpy_tree.proofs.value.Values.copy.Given as goal

abbrev pub invariant-loop-v : goal.invariant-loop-v
invariant-loop-v l = l.copies.items ≡ take l.v-index l.v-items
