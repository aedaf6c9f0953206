use Rattle.std.proofs.Common.{ℕ, ◌<◌, ◌≤◌}
use Rattle.sat_plain.specs.Trails.{IsValued, literals_of}
use Rattle.sat_plain.specs.Searching.{AllWatched, Grows}
use Rattle.sat_plain.proofs.search.Search.next_conflict.Given as goal

-- each variable so far has a value, and no clause is unit or false
abbrev pub invariant-loop-above : goal.invariant-loop-above
invariant-loop-above l = record {
  grows : Grows l.fn.self l.self;
  calm : AllWatched l.self.clauses (literals_of l.self.entries) (literals_of l.self.entries);
  valued : (v : ℕ) → 0 < v → v ≤ l.above → IsValued (literals_of l.self.entries) v;
}
