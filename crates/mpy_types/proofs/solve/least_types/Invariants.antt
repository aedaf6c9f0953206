use Rattle.std.proofs.Common.{◌≡◌, List, length}
use Rattle.mpy_tree.specs.declared.typing.TypeSet.{TypeSet}
use Rattle.mpy_types.specs.Passes.{lacking, AllHold, IsBelow}
use Rattle.mpy_types.proofs.solve.least_types.Given as goal

-- each type so far is in all sets by which the flows hold
abbrev pub invariant-passes : goal.invariant-passes
invariant-passes l =
    (length l.sets.items ≡ length l.places)
    × ((u : List TypeSet) → length u ≡ length l.places → AllHold u l.inflows → IsBelow l.sets.items u)

-- types that aren't there yet
abbrev pub decreases-passes : goal.decreases-passes
decreases-passes l = lacking l.sets.items
