use Rattle.std.proofs.Common.{◌≡◌, map, drop}
use Rattle.choice_tree.specs.RuleViews.{correction_of}
use Rattle.eml_faults.specs.LimitFaults.{limit_fault, limit_fault_behind}
use Rattle.eml_faults.proofs.limits.limit_line.Given as goal

-- the rules that are left decide
abbrev pub invariant-loop-i : goal.invariant-loop-i
invariant-loop-i l =
    limit_fault (map correction_of l.rules)
    ≡ limit_fault_behind l.i (map correction_of (drop l.i l.rules))
