use Rattle.std.proofs.Common.{◌≡◌, map, drop}
use Rattle.choice_tree.specs.RuleViews.{correction_of}
use Rattle.eml_faults.specs.MeaningFaults.{is_named_before}
use Rattle.eml_faults.proofs.meanings.is_named_before.Given as goal

-- the rules that are left decide
abbrev pub invariant-loop-other : goal.invariant-loop-other
invariant-loop-other l =
    is_named_before (map correction_of l.before) (correction_of l.rule)
    ≡ is_named_before (map correction_of (drop l.other-index l.before)) (correction_of l.rule)
