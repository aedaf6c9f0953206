use Rattle.std.proofs.Common.{◌≡◌, ◌*◌, ◌≤◌, length}
use Rattle.sat_watch.specs.Searching.{Grows, IsSearch, all_of}
use Rattle.sat_watch.proofs.propagate.go_over.Given as goal

abbrev pub invariant-loop-count : goal.invariant-loop-count
invariant-loop-count l = record {
  watches : l.watches ≡ l.fn.watches;
  vars : l.trail.vars ≡ l.fn.trail.vars;
  grows : Grows l.fn.trail.entries l.trail.entries;
  search : IsSearch (record { base = l.fn.known; entries = l.trail.entries });
  before : l.before ≤ 2 * length (all_of l.fn.known);
  within : l.item ≤ 2 * length (all_of l.fn.known);
}
