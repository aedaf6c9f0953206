use Rattle.std.proofs.Common.{◌≡◌, true, [], ◌∷◌, take}
use Rattle.cnf_build.specs.Gates.{literals, clauses_from}
use Rattle.cnf_build.proofs.build.clauses_of.Given as goal

-- the clauses of the gates so far
abbrev pub invariant-loop-k : goal.invariant-loop-k
invariant-loop-k l = literals l.clauses ≡ (record { var = 1; positive = true } ∷ []) ∷ clauses_from l.variables 0 (take l.k l.g.gates)
