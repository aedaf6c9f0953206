use Rattle.std.proofs.Common.{◌≡◌, map, take}
use Rattle.input_space.specs.Inputs.{param_type}
use Rattle.input_space.proofs.within.signature.Given as goal

abbrev pub invariant-loop-p : goal.invariant-loop-p
invariant-loop-p l = l.types.items ≡ map param_type (take l.p-index l.b.params)
