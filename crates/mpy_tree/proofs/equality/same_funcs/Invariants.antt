use Rattle.std.proofs.Common.{◌≡◌, map, drop}
use Rattle.std.specs.Cmp.Lexicographic.{pointwise}
use Rattle.mpy_tree.specs.View.{routine_of}
use Rattle.mpy_tree.specs.Comparing.{same_routine}
use Rattle.mpy_tree.proofs.equality.same_funcs.Given as goal

-- the lists are equal where what is left of them is
abbrev pub invariant-loop-i : goal.invariant-loop-i
invariant-loop-i l = pointwise same_routine (map routine_of l.a.items.items) (map routine_of l.b.items.items) ≡ pointwise same_routine (map routine_of (drop l.i l.a.items.items)) (map routine_of (drop l.i l.b.items.items))
