use Rattle.std.proofs.Common.{◌≡◌, map, drop}
use Rattle.std.specs.List.{flat_map}
use Rattle.mpy_tree.specs.Leasts.{lesser, least}
use Rattle.mpy_tree.specs.View.{routine_of}
use Rattle.mpy_limits.specs.Limits.{routine_lines}
use Rattle.mpy_limits.proofs.limits.functions_limit.Given as goal

-- the line so far and the lines that are left give what all give
abbrev pub invariant-loop-f : goal.invariant-loop-f
invariant-loop-f l = lesser l.initial.found (least (flat_map routine_lines (map routine_of l.funcs))) ≡ lesser l.found (least (flat_map routine_lines (map routine_of (drop l.f-index l.funcs))))
