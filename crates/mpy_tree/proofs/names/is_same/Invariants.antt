use Rattle.std.specs.Prelude.{◌≡◌, nat_eq}
use Rattle.std.proofs.Common.{drop}
use Rattle.std.specs.Cmp.Lexicographic.{pointwise}
use Rattle.mpy_tree.proofs.names.is_same.Given as goal

-- the rest of the one is the rest of the other if they are the same
abbrev pub invariant-loop-i : goal.invariant-loop-i
invariant-loop-i l = pointwise nat_eq l.xs l.ys ≡ pointwise nat_eq (drop l.i l.xs) (drop l.i l.ys)
