use Rattle.std.proofs.Common.{◌≡◌, drop}
use Rattle.std.specs.List.{list_any}
use Rattle.eml_faults.specs.MeaningFaults.{is_strange}
use Rattle.eml_faults.proofs.metas.is_any_strange.Given as goal

-- the metavariables that are left decide
abbrev pub invariant-loop-m : goal.invariant-loop-m
invariant-loop-m l =
    list_any (is_strange l.left) l.right ≡ list_any (is_strange l.left) (drop l.m-index l.right)
