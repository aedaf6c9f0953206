use Rattle.std.proofs.Common.{◌≡◌, map, drop}
use Rattle.mpy_tree.specs.View.{routine_of}
use Rattle.mpy_tree.specs.Leasts.{lesser, least}
use Rattle.mpy_tree.specs.Names.{arity_lines, arity_lines_from}
use Rattle.mpy_scopes.proofs.faults.least_arity_line.Given as goal

abbrev pub invariant-loop-func : goal.invariant-loop-func
invariant-loop-func l =
    least (arity_lines (map routine_of l.funcs))
    ≡ lesser l.first (least (arity_lines_from (map routine_of l.funcs) (map routine_of (drop l.func-index l.funcs))))
