use Rattle.std.proofs.Common.{◌≡◌, drop}
use Rattle.mpy_tree.specs.Locals.{is_among}
use Rattle.mpy_types.proofs.slots.local_line.Given as goal

abbrev pub invariant-loop-y : goal.invariant-loop-y
invariant-loop-y l = is_among l.func.params l.x ≡ is_among (drop l.y-index l.y-items) l.x
