use Rattle.std.proofs.Common.{◌≡◌, map, take, drop}
use Rattle.choice_tree.specs.RuleViews.{correction_of}
use Rattle.eml_faults.specs.MeaningFaults.{meaning_fault, meaning_fault_behind}
use Rattle.eml_faults.proofs.meanings.meaning_fault.Given as goal

-- the rules that are left decide, behind those before them
abbrev pub invariant-loop-i : goal.invariant-loop-i
invariant-loop-i l =
    meaning_fault (map correction_of l.rules)
    ≡ meaning_fault_behind (map correction_of (take l.i l.rules))
    (map correction_of (drop l.i l.rules))
