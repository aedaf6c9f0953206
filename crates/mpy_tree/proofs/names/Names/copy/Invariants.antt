use Rattle.std.proofs.Common.{◌≡◌, take}
use Rattle.mpy_tree.proofs.names.Names.copy.Given as goal

abbrev pub invariant-loop-x : goal.invariant-loop-x
invariant-loop-x l = l.copies.items ≡ take l.x-index l.x-items
