use Rattle.std.proofs.Common.{◌≡◌, take}
use Rattle.mpy_types.specs.Passes.{are_none}
use Rattle.mpy_types.proofs.solve.no_types.Given as goal

abbrev pub invariant-loop-place : goal.invariant-loop-place
invariant-loop-place l = l.sets.items ≡ are_none (take l._place-index l.places)
