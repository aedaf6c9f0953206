use Rattle.std.proofs.Common.{◌≡◌, drop}
use Rattle.eml_faults.specs.MeaningFaults.{is_among}
use Rattle.eml_faults.proofs.metas.is_among.Given as goal

-- the metavariables that are left decide
abbrev pub invariant-loop-n : goal.invariant-loop-n
invariant-loop-n l = is_among l.metas l.m ≡ is_among (drop l.n-index l.metas) l.m
