use Rattle.std.proofs.Common.{◌≡◌, take, true}
use Rattle.clause_base.specs.Formulas.{clauses_in_range}
use Rattle.clause_base.specs.Logs.{LogFollows, known_of}
use Rattle.log_check.proofs.first_bad.Given as goal

-- what is known are the formula's clauses and those of the steps so far, which follow
abbrev pub invariant-loop-i : goal.invariant-loop-i
invariant-loop-i l =
    (l.known ≡ known_of l.fn.formula.clauses (take l.i l.log.steps))
    × LogFollows l.fn.formula.vars l.fn.formula.clauses (take l.i l.log.steps)
    × (l.checker ≡ l.fn.formula.vars) × (clauses_in_range l.fn.formula.vars l.known ≡ true)
