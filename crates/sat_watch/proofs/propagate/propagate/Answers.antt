use Rattle.std.proofs.Common.{◌∙◌}
use Rattle.sat_watch.proofs.Growing.{grows_on}
use Rattle.sat_watch.proofs.propagate.propagate.Goals as goal

pub returns-in-Some-clause-grows : goal.returns-in-Some-clause-grows
returns-in-Some-clause-grows c = grows_on c.args.trail.now.entries c.loop-next.trail.entries c.go_over.new.trail.entries c.loop-next.invariant.grows c.go_over.ensures.grows

pub loop-next-preserved : goal.loop-next-preserved
loop-next-preserved c = record {
  watches = c.go_over.ensures.watches ∙ c.loop-next.invariant.watches;
  vars = c.go_over.ensures.vars ∙ c.loop-next.invariant.vars;
  grows = grows_on c.args.trail.now.entries c.loop-next.trail.entries c.go_over.new.trail.entries c.loop-next.invariant.grows c.go_over.ensures.grows;
  search = c.go_over.ensures.search;
}
