use Rattle.std.proofs.Common.{◌≡◌, map, drop}
use Rattle.mpy_tree.specs.View.{routine_of}
use Rattle.mpy_tree.specs.Running.{found}
use Rattle.mpy_scopes.proofs.faults.entry_fault.Given as goal

abbrev pub invariant-loop-func : goal.invariant-loop-func
invariant-loop-func l = found (map routine_of l.funcs) l.entry ≡ found (map routine_of (drop l.func-index l.funcs)) l.entry
