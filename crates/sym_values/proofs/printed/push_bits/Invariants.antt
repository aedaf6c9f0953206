use Rattle.std.proofs.Common.{◌≡◌, ◌++◌, take}
use Rattle.sym_values.proofs.printed.push_bits.Given as goal

abbrev pub invariant-loop-bit : goal.invariant-loop-bit
invariant-loop-bit g l = l.out ≡ l.fn.out ++ take l.bit-index l.bits
