use Rattle.std.proofs.Common.{◌≡◌, length}
use Rattle.std.specs.Prelude.{MatchOption}
use Rattle.sat_plain.specs.Trails.{IsConflict}
use Rattle.sat_plain.specs.Searching.{IsFull, NoneRefutes}
use Rattle.sat_plain.proofs.solver.search.Given as goal

abbrev pub invariant-loop-count : goal.invariant-loop-count
invariant-loop-count l = record {
  vars : l.search.vars ≡ l.f.vars;
  clauses : l.search.clauses ≡ l.f.clauses;
  going : NoneRefutes l.search.steps;
  many : length l.search.steps ≡ l._count;
  conflict : MatchOption l.conflict (IsFull l.search) (IsConflict l.search.clauses l.search.entries);
}
