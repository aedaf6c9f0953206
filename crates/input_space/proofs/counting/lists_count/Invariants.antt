use Rattle.std.proofs.Common.{◌≡◌, min}
use Rattle.input_space.specs.Counts.{lists_count}
use Rattle.input_space.proofs.counting.lists_count.Given as goal

abbrev pub invariant-loop-k : goal.invariant-loop-k
invariant-loop-k l = l.count ≡ min (lists_count l.base l.least l.k) 1000000000000
