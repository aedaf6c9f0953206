use Rattle.std.proofs.Common.{◌≡◌, false, take}
use Rattle.bounds_reader.specs.Ranges.{has_twice}
use Rattle.bounds_reader.proofs.ranges.has_twice.Given as goal

abbrev pub invariant-loop-i : goal.invariant-loop-i
invariant-loop-i l = has_twice (take l.i l.bytes) ≡ false
