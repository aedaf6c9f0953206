use Rattle.std.proofs.Common.{take}
use Rattle.clause_base.specs.Literals.{IsGreatest}
use Rattle.clause_base.proofs.clause.Clause.greatest.Given as goal

-- the greatest so far
abbrev pub invariant-loop-lit : goal.invariant-loop-lit
invariant-loop-lit l = IsGreatest l.most (take l.lit-index l.lit-items)
