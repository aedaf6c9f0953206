use Rattle.std.proofs.Common.{take}
use Rattle.mpy_parser.specs.Programs.{AreItems}
use Rattle.mpy_parser.specs.Views.{lines_of}
use Rattle.mpy_parser.proofs.entries.entries.Given as goal

-- the entries so far are those of the lines so far
abbrev pub invariant-loop-line : goal.invariant-loop-line
invariant-loop-line l = AreItems (take l.line-index l.lines) (lines_of l.found.items)
