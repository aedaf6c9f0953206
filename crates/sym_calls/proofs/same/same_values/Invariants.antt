use Rattle.std.proofs.Common.{take}
use Rattle.sym_calls.specs.Alike.{AreAlike}
use Rattle.sym_calls.proofs.same.same_values.Given as goal

-- the values so far are alike
abbrev pub invariant-loop-i : goal.invariant-loop-i
invariant-loop-i g l = AreAlike g.L.Logic.reads l.fn.g (take l.i l.xs) (take l.i l.ys)
