use Rattle.std.proofs.Common.{◌≡◌, true, All, take}
use Rattle.mpy_tree.specs.Fitting.{all_fit_as}
use Rattle.input_space.specs.declared.case.Case.{Case}
use Rattle.bit_lanes.specs.LaneCases.{first_types}
use Rattle.solver_tests.proofs.lanes.are_lanes.Given as goal

abbrev pub invariant-loop-case : goal.invariant-loop-case
invariant-loop-case l =
    All (λ (c : Case). all_fit_as l.l (first_types l.cases) c.values ≡ true) (take l.case-index l.cases)
