use Rattle.std.proofs.Common.{◌≡◌}
use Rattle.sat_watch.specs.Searching.{all_of}
use Rattle.sat_watch.specs.Trails.{literals_of}
use Rattle.sat_watch.proofs.Chains.{IsGoing}
use Rattle.sat_watch.proofs.propagate.look.Given as goal

abbrev pub invariant-loop-number : goal.invariant-loop-number
invariant-loop-number l = record {
  same : l.listing ≡ l.fn.listing;
  going : IsGoing l.var (literals_of l.trail.entries) (all_of l.known) l.number;
}

abbrev pub decreases-loop-number : goal.decreases-loop-number
decreases-loop-number l = l.number
