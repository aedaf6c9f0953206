use Rattle.std.proofs.Common.{◌≡◌, map, drop}
use Rattle.mpy_tree.specs.SetTypes.{called, called_from}
use Rattle.mpy_tree.specs.View.{routine_of, routines_of}
use Rattle.task_read.proofs.entry.result_type.Given as goal

-- the entry is among the functions that are left, if it is one
abbrev pub invariant-loop-i : goal.invariant-loop-i
invariant-loop-i l = called (routines_of l.program) l.bounds.entry ≡ called_from (map routine_of (drop l.i l.program.funcs.items.items)) l.bounds.entry l.i
