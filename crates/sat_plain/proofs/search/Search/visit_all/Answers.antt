use Rattle.std.proofs.Common.{◌≡◌, ◌<◌, ap, arith, length}
use Rattle.std.proofs.lemmas.Option.{slice_get_within}
use Rattle.sat_plain.specs.Searching.{State}
use Rattle.sat_plain.proofs.Growth.{grows_clauses, grows_on}
use Rattle.sat_plain.proofs.Propagating.{seen_all}
use Rattle.sat_plain.proofs.search.Search.visit_all.Goals as goal

pub returns-then-visit-clause-grows : goal.returns-then-visit-clause-grows
returns-then-visit-clause-grows c = grows_on c.args.self.now c.loop-place.self c.visit.new.self c.loop-place.invariant.grows c.visit.ensures.grows

pub loop-place-preserved : goal.loop-place-preserved
loop-place-preserved c = record {
  grows = grows_on c.args.self.now c.loop-place.self c.visit.new.self c.loop-place.invariant.grows c.visit.ensures.grows;
  seen = seen_all c.loop-place.self c.visit.new.self c.loop-place.place c.visit.ensures.grows c.loop-place.invariant.seen (c.visit.ensures.watched c.if-visit.false);
}

pub returns-clause-answer : goal.returns-clause-answer
returns-clause-answer c = record {
  each = λ k d e.
      let within : k < length c.loop-place.self.clauses = slice_get_within c.loop-place.self.clauses k d e in
      let same : length c.loop-place.self.clauses ≡ length c.args.self.now.clauses = ap length (grows_clauses c.args.self.now c.loop-place.self c.loop-place.invariant.grows) in
      let view : length c.self.inside.f.now.clauses ≡ length c.args.self.now.clauses = ap (λ (s : State). length s.clauses) c.self.view_is in
      c.loop-place.invariant.seen k d e (omega arith);
}
