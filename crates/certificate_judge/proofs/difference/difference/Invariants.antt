use Rattle.std.proofs.Common.{◌≡◌, take}
use Rattle.certificate_judge.proofs.difference.difference.Given as goal

-- the clauses so far are equal
abbrev pub invariant-loop-i : goal.invariant-loop-i
invariant-loop-i l = take l.i l.f.clauses ≡ take l.i l.g.clauses
