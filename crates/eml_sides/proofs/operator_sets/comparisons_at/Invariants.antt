use Rattle.std.proofs.Common.{◌≡◌, ◌++◌, length, Some}
use Rattle.mpy_tree.specs.Options.{◌>>=◌}
use Rattle.eml_sides.specs.OperatorSets.{comparisons_at}
use Rattle.eml_sides.proofs.operator_sets.comparisons_at.Given as goal

-- the operators so far, and then those of the rest
abbrev pub invariant-loop-rest : goal.invariant-loop-rest
invariant-loop-rest l =
    comparisons_at l.tokens ≡ (comparisons_at l.rest >>= λ o. Some (l.found.items ++ o.0, o.1))

abbrev pub decreases-loop-rest : goal.decreases-loop-rest
decreases-loop-rest l = length l.rest
