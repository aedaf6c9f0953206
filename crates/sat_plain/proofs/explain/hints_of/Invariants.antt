use Rattle.std.proofs.Common.{reverse, take}
use Rattle.clause_base.specs.Logs.{known_of}
use Rattle.sat_plain.proofs.Explaining.{IsWalk}
use Rattle.sat_plain.proofs.explain.hints_of.Given as goal

abbrev pub invariant-loop-i : goal.invariant-loop-i
invariant-loop-i l = IsWalk (known_of l.clauses l.steps) (reverse l.entries) (reverse (take l.i l.entries)) l.wanted (reverse l.hints.items)
