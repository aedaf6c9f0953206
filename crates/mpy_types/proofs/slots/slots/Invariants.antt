use Rattle.std.proofs.Common.{◌≡◌, ◌++◌, map, drop}
use Rattle.mpy_tree.specs.View.{routine_of}
use Rattle.mpy_tree.specs.Faults.{slots, slots_from}
use Rattle.mpy_scopes.specs.Views.{scope_routine}
use Rattle.mpy_types.specs.Views.{place_of}
use Rattle.mpy_types.proofs.slots.slots.Given as goal

abbrev pub invariant-loop-i : goal.invariant-loop-i
invariant-loop-i l = slots (map routine_of l.scopes.funcs.now) ≡ map place_of l.out.items ++ slots_from l.i (map scope_routine (drop l.i l.scope-items))
