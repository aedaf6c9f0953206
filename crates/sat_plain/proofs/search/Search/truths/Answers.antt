use Rattle.std.proofs.Common.{◌≡◌, true, subst, sym}
use Rattle.clause_base.specs.Formulas.{satisfies}
use Rattle.sat_plain.specs.Trails.{IsOrdered}
use Rattle.sat_plain.specs.Searching.{IsFull, State}
use Rattle.sat_plain.proofs.Values.{full_satisfies}
use Rattle.sat_plain.proofs.search.Search.truths.Goals as goal

pub returns-clause-satisfied : goal.returns-clause-satisfied
returns-clause-satisfied c full =
    let inside = c.self.inside in
    let s : State = record { vars = inside.f.now.vars; clauses = inside.f.now.clauses; index = inside.occurrences; steps = inside.steps; entries = inside.trail.entries } in
    let ordered = subst (λ v. IsOrdered v inside.trail.entries) c.self.invariant.0 c.entries-entries.ensures.ordered in
    let agree = rw c.self.invariant.0 at c.in_ok-values.ensures.agree in
    subst (λ (t : State). satisfies c.in_ok-values.values t.clauses ≡ true) c.self.view_is
    (full_satisfies s c.in_ok-values.values ordered inside.f.now.in_range (subst IsFull (sym c.self.view_is) full) agree)
