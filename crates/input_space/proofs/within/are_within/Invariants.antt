use Rattle.std.proofs.Common.{◌≡◌, drop}
use Rattle.input_space.specs.Inputs.{are_within}
use Rattle.input_space.proofs.within.are_within.Given as goal

abbrev pub invariant-loop-i : goal.invariant-loop-i
invariant-loop-i l = are_within (drop l.i l.params) (drop l.i l.values) ≡ are_within l.params l.values
