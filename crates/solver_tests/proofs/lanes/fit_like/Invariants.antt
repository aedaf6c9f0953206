use Rattle.std.proofs.Common.{◌≡◌, true, length, map, take}
use Rattle.mpy_tree.specs.Fitting.{all_fit_as, type_of}
use Rattle.solver_tests.proofs.lanes.fit_like.Given as goal

abbrev pub invariant-loop-i : goal.invariant-loop-i
invariant-loop-i l = record {
  long : length l.first ≡ length l.values;
  fit : all_fit_as l.l (map type_of (take l.i l.first)) (take l.i l.values) ≡ true;
}
