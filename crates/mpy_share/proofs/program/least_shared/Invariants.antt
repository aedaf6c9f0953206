use Rattle.std.proofs.Common.{◌≡◌, map, drop}
use Rattle.mpy_tree.specs.View.{routine_of}
use Rattle.mpy_tree.specs.Typings.{set_of}
use Rattle.mpy_tree.specs.Leasts.{lesser, least}
use Rattle.mpy_tree.specs.Rules.{single}
use Rattle.mpy_tree.specs.Sharing.{shared, shared_from}
use Rattle.mpy_share.proofs.program.least_shared.Given as goal

abbrev pub invariant-loop-i : goal.invariant-loop-i
invariant-loop-i l =
    least (shared (single (set_of l.facts)) (map routine_of l.funcs))
    ≡ lesser l.first (least (shared_from (single (set_of l.facts)) (map routine_of l.funcs) l.i (map routine_of (drop l.i l.funcs))))
