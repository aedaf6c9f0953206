use Rattle.std.proofs.Common.{◌≡◌, ◌||◌, ◌+◌, drop}
use Rattle.mpy_tree.specs.Locals.{is_among}
use Rattle.mpy_tree.specs.Names.{has_twice}
use Rattle.mpy_scopes.proofs.faults.has_twice.Given as goal

abbrev pub invariant-loop-k : goal.invariant-loop-k
invariant-loop-k l = has_twice l.names ≡ has_twice (drop l.k l.names)

abbrev pub invariant-loop-y : goal.invariant-loop-y
invariant-loop-y l = has_twice l.names ≡ (is_among (drop l.y-index l.y-items) l.x || has_twice (drop (l.k + 1) l.names))
