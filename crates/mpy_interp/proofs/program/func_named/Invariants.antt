use Rattle.std.proofs.Common.{◌≡◌, drop, map}
use Rattle.mpy_tree.specs.View.{routine_of}
use Rattle.mpy_tree.specs.Running.{found}
use Rattle.mpy_interp.proofs.program.func_named.Given as goal

-- the function is not among those so far
abbrev pub invariant-loop-func : goal.invariant-loop-func
invariant-loop-func l = found (map routine_of l.func-items) l.f ≡ found (map routine_of (drop l.func-index l.func-items)) l.f
