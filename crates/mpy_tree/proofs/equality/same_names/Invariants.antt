use Rattle.std.proofs.Common.{◌≡◌, drop}
use Rattle.std.specs.Cmp.Lexicographic.{pointwise}
use Rattle.mpy_tree.specs.Values.{same_bytes}
use Rattle.mpy_tree.proofs.equality.same_names.Given as goal

-- the lists are equal where what is left of them is
abbrev pub invariant-loop-i : goal.invariant-loop-i
invariant-loop-i l = pointwise same_bytes l.a l.b ≡ pointwise same_bytes (drop l.i l.a) (drop l.i l.b)
