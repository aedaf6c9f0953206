use Rattle.std.proofs.Common.{◌≤◌, ◌-◌, length}
use Rattle.sat_plain.specs.Trails.{literals_of, oldest}
use Rattle.sat_plain.specs.Searching.{AllWatched, Grows}
use Rattle.sat_plain.proofs.search.Search.propagate.Given as goal

abbrev pub invariant-loop-next : goal.invariant-loop-next
invariant-loop-next l = record {
  grows : Grows l.fn.self l.self;
  within : l.next ≤ length l.self.entries;
  settled : AllWatched l.self.clauses (literals_of l.self.entries) (oldest l.next (literals_of l.self.entries));
}

abbrev pub decreases-loop-next : goal.decreases-loop-next
decreases-loop-next l = l.fn.self.vars - l.next
