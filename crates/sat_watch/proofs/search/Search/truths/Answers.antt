use Rattle.std.proofs.Common.{◌≡◌, ◌<◌, ◌≤◌, Bool, List, map, true, subst, sym}
use Rattle.std.proofs.lemmas.Result.{IfOk-weaker}
use Rattle.clause_base.specs.declared.lit.Lit.{Lit}
use Rattle.clause_base.specs.declared.log.Step.{Step}
use Rattle.clause_base.specs.Formulas.{satisfies}
use Rattle.clause_base.specs.Literals.{literal_true}
use Rattle.sat_watch.specs.Searching.{IsFull, State}
use Rattle.sat_watch.specs.Trails.{is_among, literals_of}
use Rattle.sat_watch.proofs.Covered.{range_front}
use Rattle.sat_watch.proofs.Values.{full_satisfies}
use Rattle.sat_watch.proofs.search.Search.truths.Goals as goal

pub returns-clause-satisfied : goal.returns-clause-satisfied
returns-clause-satisfied c =
    let inside = c.self.inside in
    let s : State = record { base = inside.known; entries = inside.trail.entries } in
    let range = range_front inside.known.vars inside.known.clauses (map (λ (t : Step). t.clause) inside.known.steps) c.logged.ensures.in_range in
    let full = subst IsFull (sym c.self.view_is) c.requires in
    let Agrees : List Bool → Type 0 = λ values. (l : Lit) → 0 < l.var → l.var ≤ inside.trail.vars → is_among l (literals_of inside.trail.entries) ≡ true → literal_true values l ≡ true in
    let Satisfied : List Bool → Type 0 = λ values. satisfies values c.args.self.now.base.clauses ≡ true in
    IfOk-weaker c.truths.result Agrees Satisfied (λ (values : List Bool) (agree : Agrees values).
    subst (λ (t : State). satisfies values t.base.clauses ≡ true) c.self.view_is (full_satisfies s values range full (rw c.self.invariant.0 at agree))) c.truths.ensures.agree
