use Rattle.std.proofs.Common.{◌≡◌, drop}
use Rattle.mpy_tree.specs.Operations.{has_number}
use Rattle.value_operations.proofs.comparisons.contains_number.Given as goal

-- the number is in the rest if it is in the list
abbrev pub invariant-loop-x : goal.invariant-loop-x
invariant-loop-x l = has_number l.z l.xs ≡ has_number l.z (drop l.x-index l.xs)
