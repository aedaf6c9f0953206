use Rattle.std.proofs.Common.{◌≡◌, drop}
use Rattle.bounds_reader.specs.declared.foreign.Mode.TheVariants.{Plain}
use Rattle.bounds_reader.specs.Modes.{has_fault_from}
use Rattle.bounds_reader.proofs.foreign.has_faulty_byte.Given as goal

abbrev pub invariant-loop-i : goal.invariant-loop-i
invariant-loop-i l = has_fault_from l.mode (drop l.i l.line) ≡ has_fault_from Plain l.line
