use Rattle.std.proofs.Common.{◌≡◌, map, drop}
use Rattle.mpy_tree.specs.View.{routine_of, block_of}
use Rattle.mpy_tree.specs.Sites.{sites}
use Rattle.mpy_tree.specs.Names.{has_name_fault, lines_of}
use Rattle.mpy_tree.specs.Locals.{locals}
use Rattle.mpy_tree.specs.Leasts.{lesser, least}
use Rattle.mpy_scopes.specs.Seen.{site_of}
use Rattle.mpy_scopes.proofs.faults.name_line_in.Given as goal

abbrev pub invariant-loop-s : goal.invariant-loop-s
invariant-loop-s l =
    least (lines_of (has_name_fault (map routine_of l.funcs) (locals (routine_of l.scope.func.now))) (sites (block_of l.scope.func.now.body)))
    ≡ lesser l.first (least (lines_of (has_name_fault (map routine_of l.funcs) (locals (routine_of l.scope.func.now))) (map site_of (drop l.s-index l.s-items))))
