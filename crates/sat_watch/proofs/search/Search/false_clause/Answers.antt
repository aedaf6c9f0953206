use Rattle.std.proofs.Common.{◌≡◌, ◌≢◌, ◌∙◌, ◌+◌, ◌<◌, ◌≤◌, All, [], ap, arith, length, map, subst, sym, take}
use Rattle.std.proofs.lemmas.List.{take_all}
use Rattle.clause_base.specs.declared.clause.Clause.{Clause}
use Rattle.clause_base.specs.declared.log.Step.{Step}
use Rattle.clause_base.specs.Follows.{open_literals}
use Rattle.sat_watch.specs.Searching.{State}
use Rattle.sat_watch.specs.Trails.{literals_of}
use Rattle.sat_watch.proofs.Values.{calm_more}
use Rattle.sat_watch.proofs.search.Search.false_clause.Goals as goal

pub loop-place-preserved : goal.loop-place-preserved
loop-place-preserved c =
    let inside = c.self.inside in
    let known = literals_of inside.trail.entries in
    let place = c.loop-place.place in
    let clause = c.at-clause.result.now in
    let within : place < length inside.known.clauses = omega (arith, c.loop-place-test.true, c.formula_len-place-end.ensures) in
    let calm = subst (λ (s : State). All (λ (d : Clause). open_literals (literals_of s.entries) d.lits ≢ []) (take place s.base.clauses)) (sym c.self.view_is) c.loop-place.invariant in
    let here = λ (none : open_literals known clause.lits ≡ []). c.is_closed.ensures.no c.if-is_closed.false (ap (open_literals known) c.as_slice.ensures ∙ none) in
    subst (λ (s : State). All (λ (d : Clause). open_literals (literals_of s.entries) d.lits ≢ []) (take (place + 1) s.base.clauses)) c.self.view_is
    (calm_more known inside.known.clauses (map (λ (t : Step). t.clause) inside.known.steps) place clause within c.at-clause.ensures.value calm here)

pub returns : goal.returns
returns c =
    let s = c.args.self.now in
    let view = ap (λ (t : State). length t.base.clauses) c.self.view_is in
    let whole : length s.base.clauses ≤ c.loop-place.place = omega (arith, c.loop-place-test.false, c.formula_len-place-end.ensures, view) in
    record {
      valued = c.requires;
      calm = subst (All (λ (d : Clause). open_literals (literals_of s.entries) d.lits ≢ [])) (take_all c.loop-place.place s.base.clauses whole) c.loop-place.invariant;
    }
