use Rattle.std.proofs.Common.{◌≡◌, drop, map}
use Rattle.mpy_tree.specs.View.{routine_of}
use Rattle.mpy_tree.specs.SetTypes.{called_from}
use Rattle.mpy_scopes.proofs.callees.called.Given as goal

-- the function is not among those so far
abbrev pub invariant-loop-i : goal.invariant-loop-i
invariant-loop-i l = called_from (map routine_of l.funcs) l.f 0 ≡ called_from (map routine_of (drop l.i l.funcs)) l.f l.i
