use Rattle.std.proofs.Common.{◌≡◌, true, sym, subst}
use Rattle.clause_base.specs.Formulas.{clauses_in_range}
use Rattle.dimacs_text.proofs.Tidying.{clauses_more}
use Rattle.dimacs_text.proofs.tidy.with_clause.Goals as goal

pub returns-clause-range : goal.returns-clause-range
returns-clause-range c = λ vars h g.
    subst (λ r. clauses_in_range vars r ≡ true) (sym c.in_ok-push.ensures.ok)
    (clauses_more vars c.args.clauses c.in-Some.clause c.args.lits.now h g (rw c.in-Some.is at c.in_ok-clause.ensures).1)
