use Rattle.std.proofs.Common.{◌≡◌, ℕ, ◌<◌, [], Some, slice_get}
use Rattle.clause_base.specs.declared.clause.Clause.{Clause}
use Rattle.sat_plain.specs.Trails.{IsWatched, literals_of}
use Rattle.sat_plain.specs.Searching.{Grows}
use Rattle.sat_plain.proofs.search.Search.visit_all.Given as goal

-- no clause so far is unit or false, as long as no literal is handled
abbrev pub invariant-loop-place : goal.invariant-loop-place
invariant-loop-place l = record {
  grows : Grows l.fn.self l.self;
  seen : (k : ℕ) (c : Clause) → slice_get l.self.clauses k ≡ Some c → k < l.place → IsWatched (literals_of l.self.entries) [] c.lits;
}
