use Rattle.std.proofs.Common.{◌≡◌, drop}
use Rattle.sym_values.specs.Printed.{cut}
use Rattle.sym_values.proofs.printed.words_at.Given as goal

abbrev pub invariant-loop-i : goal.invariant-loop-i
invariant-loop-i g l = l.words ≡ cut l.width l.i (drop l.from l.bits)
