use Rattle.std.proofs.Common.{◌∙◌, ap, arith}
use Rattle.sat_watch.specs.Listing.{Lists, next_of}
use Rattle.sat_watch.specs.Searching.{all_of}
use Rattle.sat_watch.specs.Trails.{literals_of}
use Rattle.sat_watch.proofs.Chains.{going_end, going_next}
use Rattle.sat_watch.proofs.propagate.look.Goals as goal

pub loop-number-preserved : goal.loop-number-preserved
loop-number-preserved c =
    let same = c.look_at.ensures.same ∙ c.loop-number.invariant.same in
    let next = c.next-number.ensures ∙ ap (λ (x : Lists). next_of x c.loop-number.number) same in
    record {
      same = same;
      going = going_next c.args.known.now.vars (all_of c.args.known.now) c.args.listing.now (literals_of c.args.trail.now.entries) c.args.var c.loop-number.number c.next-number.result c.requires.listing
          c.requires.some c.loop-number-test.true c.loop-number.invariant.going next c.in_default.ensures.answer;
    }

pub returns-clause-answer : goal.returns-clause-answer
returns-clause-answer c = going_end c.args.var (literals_of c.args.trail.now.entries) (all_of c.args.known.now) c.loop-number.number c.loop-number.invariant.going (omega (arith, c.loop-number-test.false))
