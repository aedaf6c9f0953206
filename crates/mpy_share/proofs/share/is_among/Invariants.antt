use Rattle.std.proofs.Common.{◌≡◌, drop}
use Rattle.mpy_tree.specs.Locals.{is_among}
use Rattle.mpy_share.proofs.share.is_among.Given as goal

abbrev pub invariant-loop-y : goal.invariant-loop-y
invariant-loop-y l = is_among l.names l.x ≡ is_among (drop l.y-index l.names) l.x
