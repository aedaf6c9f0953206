use Rattle.std.proofs.Common.{◌≡◌, ℕ, ◌<◌, ◌≤◌, Some, slice_get}
use Rattle.clause_base.specs.Follows.{literals_at}
use Rattle.sat_plain.specs.Places.{list_of, start_of}
use Rattle.sat_plain.specs.Trails.{IsWatched, literals_of}
use Rattle.sat_plain.specs.Searching.{Grows}
use Rattle.sat_plain.proofs.search.Search.visit_clauses.Given as goal

-- no clause of the list so far is unit or false
abbrev pub invariant-loop-i : goal.invariant-loop-i
invariant-loop-i l = record {
  grows : Grows l.fn.self l.self;
  seen : (at k : ℕ) → start_of l.fn.self.index (list_of l.fn.lit) ≤ at → at < l.i → slice_get l.fn.self.index.places at ≡ Some k
      → IsWatched (literals_of l.self.entries) (literals_of l.fn.self.entries) (literals_at l.fn.self.clauses k);
}
