use Rattle.std.proofs.Common.{◌≡◌, map, drop}
use Rattle.mpy_tree.specs.Running.{found}
use Rattle.mpy_tree.specs.View.{routine_of, routines_of}
use Rattle.task_read.proofs.entry.entry_line.Given as goal

-- the entry is among the functions that are left, if it is one
abbrev pub invariant-loop-func : goal.invariant-loop-func
invariant-loop-func l = found (routines_of l.program) l.bounds.entry ≡ found (map routine_of (drop l.func-index l.func-items)) l.bounds.entry
