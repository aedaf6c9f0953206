use Rattle.std.proofs.Common.{◌≡◌, map, drop}
use Rattle.mpy_tree.specs.View.{routine_of, block_of}
use Rattle.mpy_tree.specs.Sites.{sites}
use Rattle.mpy_tree.specs.Names.{has_arity_fault, lines_of}
use Rattle.mpy_tree.specs.Leasts.{lesser, least}
use Rattle.mpy_scopes.specs.Seen.{site_of}
use Rattle.mpy_scopes.proofs.faults.arity_line_in.Given as goal

abbrev pub invariant-loop-s : goal.invariant-loop-s
invariant-loop-s l =
    least (lines_of (has_arity_fault (map routine_of l.funcs)) (sites (block_of l.func.body)))
    ≡ lesser l.first (least (lines_of (has_arity_fault (map routine_of l.funcs)) (map site_of (drop l.s-index l.s-items))))
