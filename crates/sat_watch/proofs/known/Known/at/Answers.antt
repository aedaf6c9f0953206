use Rattle.std.proofs.Common.{◌≡◌, ◌∙◌, ◌+◌, ◌-◌, ◌≤◌, ℕ, List, Some, ap, arith, length, slice_get, subst}
use Rattle.clause_base.specs.declared.clause.Clause.{Clause}
use Rattle.clause_base.specs.declared.log.Step.{Step}
use Rattle.clause_base.specs.Literals.{IsCovered}
use Rattle.clause_base.specs.Logs.{known_of}
use Rattle.clause_base.specs.LogLaws.{KnownByPlace}
use Rattle.sat_watch.specs.Searching.{Base, all_of}
use Rattle.sat_watch.proofs.Covered.{covered_at}
use Rattle.sat_watch.proofs.known.Known.at.Goals as goal

-- the clause of a logged step
logged_at : KnownByPlace → (clauses : List Clause) (steps : List Step) (place k : ℕ) (s : Step) → length clauses ≤ place → k ≡ place - length clauses → slice_get steps k ≡ Some s
    → slice_get (known_of clauses steps) place ≡ Some s.clause
logged_at by_place clauses steps place k s above is here =
    let back : place ≡ length clauses + k = omega arith in
    ap (slice_get (known_of clauses steps)) back ∙ (by_place clauses steps k).1 s here

pub returns-then-place-len-clause-covered : goal.returns-then-place-len-clause-covered
returns-then-place-len-clause-covered c =
    let f = c.self.inside.f.now in
    subst (λ (b : Base). IsCovered b.vars c.at.result.now.lits) c.self.view_is
    (covered_at f.vars f.clauses (c.args.number - 1) c.at.result.now c.at.ensures f.in_range)

pub returns-else-place-len-clause-value : goal.returns-else-place-len-clause-value
returns-else-place-len-clause-value c =
    let f = c.self.inside.f.now in
    let s : Step = c.at-else-place-len.result.now in
    let above : length f.clauses ≤ c.args.number - 1 = omega (arith, c.if-place-len.false, c.len.ensures) in
    let k : c.args.number - 1 - c.len-else-place-len.result ≡ c.args.number - 1 - length f.clauses = ap (λ n. c.args.number - 1 - n) c.len-else-place-len.ensures in
    subst (λ (b : Base). slice_get (all_of b) (c.args.number - 1) ≡ Some s.clause) c.self.view_is
    (logged_at c.what_is_known.ensures.by_place f.clauses c.self.inside.steps (c.args.number - 1) (c.args.number - 1 - c.len-else-place-len.result) s above k c.at-else-place-len.ensures)

pub returns-else-place-len-clause-covered : goal.returns-else-place-len-clause-covered
returns-else-place-len-clause-covered c =
    let f = c.self.inside.f.now in
    let s : Step = c.at-else-place-len.result.now in
    let above : length f.clauses ≤ c.args.number - 1 = omega (arith, c.if-place-len.false, c.len.ensures) in
    let k : c.args.number - 1 - c.len-else-place-len.result ≡ c.args.number - 1 - length f.clauses = ap (λ n. c.args.number - 1 - n) c.len-else-place-len.ensures in
    let here = logged_at c.what_is_known.ensures.by_place f.clauses c.self.inside.steps (c.args.number - 1) (c.args.number - 1 - c.len-else-place-len.result) s above k c.at-else-place-len.ensures in
    subst (λ (b : Base). IsCovered b.vars s.clause.lits) c.self.view_is
    (covered_at f.vars (known_of f.clauses c.self.inside.steps) (c.args.number - 1) s.clause here c.self.invariant.in_range)
