-- the count so far, times that of the parameters to come, is the count of all
use Rattle.std.proofs.Common.{◌≡◌, ◌≤◌, ◌*◌, min, drop, length}
use Rattle.input_space.specs.Inputs.{inputs}
use Rattle.input_space.proofs.counting.count_of.Given as goal

abbrev pub invariant-loop-p : goal.invariant-loop-p
invariant-loop-p l =
    (min (l.count * length (inputs (drop l.p-index l.params))) 1000000000000 ≡ min (length (inputs l.params)) 1000000000000)
    × (l.count ≤ 1000000000000)
