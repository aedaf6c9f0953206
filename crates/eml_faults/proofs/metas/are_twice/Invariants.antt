use Rattle.std.proofs.Common.{◌≡◌, drop}
use Rattle.eml_faults.specs.MeaningFaults.{are_twice}
use Rattle.eml_faults.proofs.metas.are_twice.Given as goal

-- the metavariables that are left decide
abbrev pub invariant-loop-i : goal.invariant-loop-i
invariant-loop-i l = are_twice l.metas ≡ are_twice (drop l.i l.metas)
