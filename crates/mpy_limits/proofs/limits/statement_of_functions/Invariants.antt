use Rattle.std.proofs.Common.{◌≡◌, map, drop}
use Rattle.std.specs.List.{flat_map}
use Rattle.mpy_tree.specs.View.{routine_of}
use Rattle.mpy_limits.specs.Limits.{nth_or_left, statements}
use Rattle.mpy_limits.proofs.limits.statement_of_functions.Given as goal

-- what is left of the place in the functions that are left is the place in all
abbrev pub invariant-loop-f : goal.invariant-loop-f
invariant-loop-f l = nth_or_left (flat_map (λ r. statements r.body) (map routine_of l.funcs)) l.n ≡ nth_or_left (flat_map (λ r. statements r.body) (map routine_of (drop l.f-index l.funcs))) l.left
