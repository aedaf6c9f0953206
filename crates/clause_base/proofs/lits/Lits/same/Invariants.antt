use Rattle.std.proofs.Common.{◌≡◌, take}
use Rattle.clause_base.proofs.lits.Lits.same.Given as goal

-- the literals so far are equal
abbrev pub invariant-loop-i : goal.invariant-loop-i
invariant-loop-i l = take l.i l.mine ≡ take l.i l.others
