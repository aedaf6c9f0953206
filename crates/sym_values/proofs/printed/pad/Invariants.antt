use Rattle.std.proofs.Common.{◌≡◌, ◌-◌, ◌++◌, length}
use Rattle.std.specs.Prelude.{replicate}
use Rattle.sym_values.proofs.printed.pad.Given as goal

abbrev pub invariant-loop : goal.invariant-loop
invariant-loop g l = l.out ≡ l.fn.out ++ replicate (l.counter - length l.fn.out) l.bit
