use Rattle.std.proofs.Common.{◌∙◌, ap, length}
use Rattle.sat_plain.specs.Searching.{State}
use Rattle.sat_plain.proofs.Growth.{grows_on, grows_one}
use Rattle.sat_plain.proofs.Propagating.{settled_decided, valued_decided}
use Rattle.sat_plain.proofs.search.Search.next_conflict.Goals as goal

pub propagate-requires-in-loop-above-clause-settled : goal.propagate-requires-in-loop-above-clause-settled
propagate-requires-in-loop-above-clause-settled c =
    let view = ap (λ (s : State). length s.entries) c.self-in-loop-above.view_is in
    settled_decided c.loop-above.self c.decide.new.self c.len-place.result _ c.decide.ensures (c.len-place.ensures.count ∙ view) c.loop-above.invariant.calm

pub returns-in-Some-propagate-clause-grows : goal.returns-in-Some-propagate-clause-grows
returns-in-Some-propagate-clause-grows c =
    grows_on c.args.self.now c.loop-above.self c.propagate-in-loop-above.new.self c.loop-above.invariant.grows
    (grows_on c.loop-above.self c.decide.new.self c.propagate-in-loop-above.new.self (grows_one c.loop-above.self c.decide.new.self _ c.decide.ensures) c.propagate-in-loop-above.ensures.grows)

pub loop-above-preserved : goal.loop-above-preserved
loop-above-preserved c = record {
  grows = grows_on c.args.self.now c.loop-above.self c.propagate-in-loop-above.new.self c.loop-above.invariant.grows
      (grows_on c.loop-above.self c.decide.new.self c.propagate-in-loop-above.new.self (grows_one c.loop-above.self c.decide.new.self _ c.decide.ensures) c.propagate-in-loop-above.ensures.grows);
  calm = c.in_default-propagate.ensures.answer;
  valued = valued_decided c.loop-above.self c.decide.new.self c.propagate-in-loop-above.new.self c.loop-above.above c.decide.ensures c.propagate-in-loop-above.ensures.grows c.loop-above.invariant.valued;
}
