use Rattle.std.proofs.Common.{◌≡◌, ◌++◌, suc, map, drop}
use Rattle.selection_numbers.specs.Numbers.{selection_from}
use Rattle.selection_numbers.proofs.member_counts.MemberCounts.selection.Given as goal

-- the members so far, and those of the digits that are left
abbrev pub invariant-loop-pick : goal.invariant-loop-pick
invariant-loop-pick l =
    selection_from 0 (map suc l.others-items) l.number
    ≡ l.chosen.items ++ selection_from l.pick (map suc (drop l.pick l.others-items)) l.rest
