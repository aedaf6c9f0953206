use Rattle.std.proofs.Common.{◌≡◌, ◌<◌, ◌≤◌, ◌+◌, ◌∷◌, ap, arith, length, subst}
use Rattle.sat_plain.specs.Trails.{literals_of, oldest}
use Rattle.sat_plain.specs.Searching.{State}
use Rattle.sat_plain.proofs.Growth.{grows_longer, grows_on}
use Rattle.sat_plain.proofs.Propagating.{settled_next}
use Rattle.sat_plain.proofs.search.Search.propagate.Goals as goal

pub returns-in-Some-clause-grows : goal.returns-in-Some-clause-grows
returns-in-Some-clause-grows c = grows_on c.args.self.now c.loop-next.self c.visit_clauses.new.self c.loop-next.invariant.grows c.visit_clauses.ensures.grows

pub loop-next-preserved : goal.loop-next-preserved
loop-next-preserved c =
    let old = c.loop-next.self in
    let new = c.visit_clauses.new.self in
    let view : length c.self.inside.trail.entries ≡ length old.entries = ap (λ (s : State). length s.entries) c.self.view_is in
    let within : c.loop-next.next < length old.entries = omega (arith, c.loop-next-test.true, c.len.ensures.count) in
    let longer : length old.entries ≤ length new.entries = grows_longer old new c.visit_clauses.ensures.grows in
    let next = subst (λ (s : State). oldest (c.loop-next.next + 1) (literals_of s.entries) ≡ c.at-lit.result ∷ oldest c.loop-next.next (literals_of s.entries)) c.self.view_is c.at-lit.ensures.value in
    record {
      grows = grows_on c.args.self.now old new c.loop-next.invariant.grows c.visit_clauses.ensures.grows;
      within = omega arith;
      settled = settled_next old new c.loop-next.next c.at-lit.result c.opposite.result c.visit_clauses.ensures.grows within next c.opposite.ensures c.in_default.ensures.answer c.loop-next.invariant.settled;
    }
