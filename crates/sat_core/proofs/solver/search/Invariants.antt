use Rattle.std.proofs.Common.{◌≡◌, length}
use Rattle.std.specs.Prelude.{MatchOption}
use Rattle.sat_watch.specs.Searching.{IsFull, NoneRefutes, all_of}
use Rattle.sat_watch.specs.Trails.{IsConflict}
use Rattle.sat_core.proofs.solver.search.Given as goal

abbrev pub invariant-loop-count : goal.invariant-loop-count
invariant-loop-count l = record {
  vars : l.search.base.vars ≡ l.f.vars;
  clauses : l.search.base.clauses ≡ l.f.clauses;
  going : NoneRefutes l.search.base.steps;
  many : length l.search.base.steps ≡ l._count;
  conflict : MatchOption l.conflict (IsFull l.search) (IsConflict (all_of l.search.base) l.search.entries);
}
