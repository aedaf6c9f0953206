use Rattle.std.proofs.Common.{◌≡◌, ◌+◌, drop, map}
use Rattle.bounds_reader.specs.Files.{first_line}
use Rattle.bounds_reader.specs.Modes.{has_fault_from}
use Rattle.bounds_reader.specs.declared.foreign.Mode.TheVariants.{Plain}
use Rattle.bounds_reader.proofs.foreign.byte_fault.Given as goal

abbrev pub invariant-loop-i : goal.invariant-loop-i
invariant-loop-i l =
    first_line (has_fault_from Plain) (l.i + 1) (map (λ x. x.now) (drop l.i l.lines))
    ≡ first_line (has_fault_from Plain) 1 (map (λ x. x.now) l.lines)
