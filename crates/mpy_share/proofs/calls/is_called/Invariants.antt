use Rattle.std.proofs.Common.{◌≡◌, map, drop}
use Rattle.mpy_tree.specs.View.{routine_of}
use Rattle.mpy_tree.specs.Sharing.{is_called}
use Rattle.mpy_share.proofs.calls.is_called.Given as goal

abbrev pub invariant-loop-func : goal.invariant-loop-func
invariant-loop-func l = is_called (map routine_of l.funcs) l.f ≡ is_called (map routine_of (drop l.func-index l.funcs)) l.f
