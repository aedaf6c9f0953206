use Rattle.std.proofs.Common.{◌≡◌, map, drop}
use Rattle.mpy_tree.specs.View.{routine_of}
use Rattle.mpy_tree.specs.Rules.{single}
use Rattle.mpy_tree.specs.Leasts.{lesser, least}
use Rattle.mpy_tree.specs.Faults.{broken_from}
use Rattle.mpy_types.proofs.broken.least_broken.Given as goal

-- the least so far, with those of the functions that are left
abbrev pub invariant-loop-i : goal.invariant-loop-i
invariant-loop-i g l =
    least (broken_from (single (g.K.Known.gives l.known)) (map routine_of l.funcs) 0 (map routine_of l.funcs))
    ≡ lesser l.first (least (broken_from (single (g.K.Known.gives l.known)) (map routine_of l.funcs) l.i (map routine_of (drop l.i l.funcs))))
