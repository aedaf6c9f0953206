use Rattle.std.proofs.Common.{◌≡◌, take}
use Rattle.clause_base.proofs.formula.Clauses.copy.Given as goal

abbrev pub invariant-loop-clause : goal.invariant-loop-clause
invariant-loop-clause l = l.items.items ≡ take l.clause-index l.clause-items
