use Rattle.std.proofs.Common.{◌≡◌, ◌++◌}
use Rattle.std.specs.Prelude.{replicate}
use Rattle.input_ranges.proofs.high_bits.filled.Given as goal

abbrev pub invariant-loop : goal.invariant-loop
invariant-loop g l = l.bits ≡ l.low ++ replicate l.counter l.high
