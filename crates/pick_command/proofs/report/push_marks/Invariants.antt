use Rattle.std.proofs.Common.{◌≡◌, ◌++◌, drop, map}
use Rattle.std.specs.String.{string_bytes}
use Rattle.pick_command.specs.Texts.{mark_lines}
use Rattle.pick_command.proofs.report.push_marks.Given as goal

-- the lines up to here, and those that are left
abbrev pub invariant-loop-i : goal.invariant-loop-i
invariant-loop-i l =
    l.out.items ++ mark_lines (drop l.i (map string_bytes l.files)) (drop l.i l.marks)
    ≡ l.fn.out.items ++ mark_lines (map string_bytes l.files) l.marks
