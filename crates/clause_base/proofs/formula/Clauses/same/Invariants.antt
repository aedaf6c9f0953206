use Rattle.std.proofs.Common.{◌≡◌, take}
use Rattle.clause_base.proofs.formula.Clauses.same.Given as goal

-- the clauses so far are equal
abbrev pub invariant-loop-i : goal.invariant-loop-i
invariant-loop-i l = take l.i l.self ≡ take l.i l.other
