use Rattle.std.proofs.Common.{◌≡◌, drop}
use Rattle.mpy_lexer.specs.PhysicalLines.{has_foreign_byte}
use Rattle.mpy_lexer.proofs.foreign.has_foreign_byte.Given as goal

abbrev pub invariant-loop-i : goal.invariant-loop-i
invariant-loop-i l = has_foreign_byte l.in_space (drop l.i l.bytes) ≡ has_foreign_byte l.in_space l.bytes
