use Rattle.std.proofs.Common.{◌≡◌, [], length}
use Rattle.mpy_parser.specs.Views.{lines_of}
use Rattle.mpy_parser.specs.Piles.{heap, with_lines, heap_of}
use Rattle.mpy_parser.proofs.building.assemble.Given as goal

-- the lines that are left, before what waits, are all lines
abbrev pub invariant-loop-entry : goal.invariant-loop-entry
invariant-loop-entry l = with_lines (lines_of l.fn.entries.items) (heap [] []) ≡ with_lines (lines_of l.entries.items) (heap_of l.pile)

abbrev pub decreases-loop-entry : goal.decreases-loop-entry
decreases-loop-entry l = length l.entries.items
