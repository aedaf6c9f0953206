use Rattle.std.proofs.Common.{◌≡◌, map, drop}
use Rattle.std.specs.List.{list_any}
use Rattle.mpy_tree.specs.View.{routine_of}
use Rattle.mpy_tree.specs.Names.{is_arity_fault, has_arity_fault}
use Rattle.mpy_scopes.specs.Seen.{site_of, node_of}
use Rattle.mpy_scopes.proofs.faults.has_arity_fault.Given as goal

abbrev pub invariant-loop-n : goal.invariant-loop-n
invariant-loop-n l =
    has_arity_fault (map routine_of l.funcs) (site_of l.s)
    ≡ list_any (is_arity_fault (map routine_of l.funcs)) (map node_of (drop l.n-index l.n-items))
