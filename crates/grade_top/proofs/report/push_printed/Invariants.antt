-- the text so far and the lines to come are the text of all
use Rattle.std.proofs.Common.{◌≡◌, ◌++◌, drop}
use Rattle.std.specs.List.{flat_map}
use Rattle.grade_top.specs.Reports.{printed_line}
use Rattle.grade_top.proofs.report.push_printed.Given as goal

abbrev pub invariant-loop-v : goal.invariant-loop-v
invariant-loop-v l =
    l.out.items ++ flat_map printed_line (drop l.v-index l.printed)
    ≡ l.fn.out.items ++ flat_map printed_line l.printed
