use Rattle.std.proofs.Common.{◌∙◌, ◌<◌, ◌≤◌, arith, length, sym}
use Rattle.sat_watch.specs.Trails.{decided}
use Rattle.sat_watch.proofs.Backing.{back_end, back_step}
use Rattle.sat_watch.proofs.trail.Trail.back_to.Goals as goal

pub loop-self-preserved : goal.loop-self-preserved
loop-self-preserved c =
    let old = c.loop-self.self.entries in
    let later : c.args.level < length (decided old) = omega (arith, c.loop-self-test.true, c.level.ensures.value) in
    record {
      vars = c.pop-newest.ensures.vars ∙ c.loop-self.invariant.vars;
      same = back_step c.args.level old c.pop-newest.new.self.entries c.pop-newest.result c.level.ensures.levelled later c.pop-newest.ensures.entry ∙ c.loop-self.invariant.same;
    }

pub returns-clause-entries : goal.returns-clause-entries
returns-clause-entries c =
    let es = c.loop-self.self.entries in
    let early : length (decided es) ≤ c.args.level = omega (arith, c.loop-self-test.false, c.level.ensures.value) in
    sym (back_end c.args.level es c.level.ensures.levelled early) ∙ c.loop-self.invariant.same
