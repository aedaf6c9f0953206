use Rattle.std.proofs.Common.{◌≡◌, ◌∙◌, ◌<◌, ◌≤◌, ◌+◌, ap, arith, length, subst, Some, slice_get}
use Rattle.sat_plain.specs.Places.{Index, IsIndexOf, list_of, start_of}
use Rattle.sat_plain.specs.Searching.{State}
use Rattle.sat_plain.proofs.Growth.{conflict_at, grows_clauses, grows_index, grows_on, grows_same}
use Rattle.sat_plain.proofs.Propagating.{list_within, place_within, seen_each, seen_list}
use Rattle.sat_plain.proofs.search.Search.visit_clauses.Goals as goal

pub loop-i-init : goal.loop-i-init
loop-i-init c = record {
  grows = grows_same c.args.self.now;
  seen = λ at k low high e.
      let same : start_of c.self.inside.occurrences (list_of c.args.lit) ≡ start_of c.args.self.now.index (list_of c.args.lit) = ap (λ (s : State). start_of s.index (list_of c.args.lit)) c.self.view_is in
      absurd (omega (arith, c.first-i.ensures));
}

pub place-place-requires : goal.place-place-requires
place-place-requires c =
    let now = c.args.self.now in
    let index = subst (λ (s : State). IsIndexOf s.vars s.clauses s.index) c.self.view_is c.self.invariant.1.index in
    let end' : start_of c.self.inside.occurrences (list_of c.args.lit + 1) ≡ start_of now.index (list_of c.args.lit + 1) = ap (λ (s : State). start_of s.index (list_of c.args.lit + 1)) c.self.view_is in
    let here : c.loop-i.i < length now.index.places = list_within now.vars now.clauses now.index c.args.lit c.loop-i.i index c.requires (omega (arith, c.loop-i-test.true, c.end-i-end.ensures, end')) in
    let same : length c.self-in-loop-i.inside.occurrences.places ≡ length now.index.places = ap (λ (s : State). length s.index.places) c.self-in-loop-i.view_is ∙ ap (λ (x : Index). length x.places) (grows_index now c.loop-i.self c.loop-i.invariant.grows) in
    omega arith

-- the place is one of a clause
within : (c : goal.After-visit-arg-1) → c.place-place.result < length c.self-in-loop-i.inside.f.now.clauses
within c =
    let inside = c.self-in-loop-i.inside in
    place_within inside.occurrences.places (length inside.f.now.clauses) c.loop-i.i c.place-place.result c.self-in-loop-i.invariant.1.index.within c.place-place.ensures

pub visit-requires : goal.visit-requires
visit-requires c = subst (λ (s : State). c.place-place.result < length s.clauses) c.self-in-loop-i.view_is (within c)

pub overflow_add-result : goal.overflow_add-result
overflow_add-result c =
    let inside = c.self-in-loop-i.inside in
    let here : c.place-place.result < length inside.f.now.clauses = place_within inside.occurrences.places (length inside.f.now.clauses) c.loop-i.i c.place-place.result c.self-in-loop-i.invariant.1.index.within c.place-place.ensures in
    let few : length inside.f.now.clauses + length inside.steps ≤ 2147483647 = c.self-in-loop-i.invariant.1.logged.numbered in
    omega arith

pub returns-then-visit-clause-grows : goal.returns-then-visit-clause-grows
returns-then-visit-clause-grows c = grows_on c.args.self.now c.loop-i.self c.visit.new.self c.loop-i.invariant.grows c.visit.ensures.grows

pub returns-then-visit-clause-answer : goal.returns-then-visit-clause-answer
returns-then-visit-clause-answer c =
    let inside = c.self-in-loop-i.inside in
    let here : c.place-place.result < length inside.f.now.clauses = place_within inside.occurrences.places (length inside.f.now.clauses) c.loop-i.i c.place-place.result c.self-in-loop-i.invariant.1.index.within c.place-place.ensures in
    let view : length inside.f.now.clauses ≡ length c.loop-i.self.clauses = ap (λ (s : State). length s.clauses) c.self-in-loop-i.view_is in
    let same : length c.visit.new.self.clauses ≡ length c.loop-i.self.clauses = ap length (grows_clauses c.loop-i.self c.visit.new.self c.visit.ensures.grows) in
    conflict_at c.visit.new.self.clauses c.visit.new.self.entries c.place-place.result (omega arith) (c.visit.ensures.closed c.if-visit.true)

pub loop-i-preserved : goal.loop-i-preserved
loop-i-preserved c = record {
  grows = grows_on c.args.self.now c.loop-i.self c.visit.new.self c.loop-i.invariant.grows c.visit.ensures.grows;
  seen =
      let here = subst (λ (s : State). slice_get s.index.places c.loop-i.i ≡ Some c.place-place.result) c.self-in-loop-i.view_is c.place-place.ensures in
      let same = grows_index c.args.self.now c.loop-i.self c.loop-i.invariant.grows in
      seen_list c.args.self.now c.loop-i.self c.visit.new.self (start_of c.args.self.now.index (list_of c.args.lit)) c.loop-i.i c.place-place.result c.loop-i.invariant.grows c.visit.ensures.grows c.loop-i.invariant.seen
      (rw same at here) (c.visit.ensures.watched c.if-visit.false);
}

pub returns-clause-grows : goal.returns-clause-grows
returns-clause-grows c = c.loop-i.invariant.grows

pub returns-clause-answer : goal.returns-clause-answer
returns-clause-answer c =
    let now = c.args.self.now in
    let index = subst (λ (s : State). IsIndexOf s.vars s.clauses s.index) c.self.view_is c.self.invariant.1.index in
    let first = c.first-i.ensures ∙ ap (λ (s : State). start_of s.index (list_of c.args.lit)) c.self.view_is in
    let end' : start_of c.self.inside.occurrences (list_of c.args.lit + 1) ≡ start_of now.index (list_of c.args.lit + 1) = ap (λ (s : State). start_of s.index (list_of c.args.lit + 1)) c.self.view_is in
    seen_each now c.loop-i.self c.args.lit c.first-i.result c.loop-i.i c.loop-i.invariant.grows index first (omega (arith, c.loop-i-test.false, c.end-i-end.ensures, end')) c.loop-i.invariant.seen
