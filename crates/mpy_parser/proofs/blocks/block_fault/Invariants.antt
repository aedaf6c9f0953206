use Rattle.std.proofs.Common.{◌≡◌, [], length}
use Rattle.mpy_parser.specs.Faults.{block_fault}
use Rattle.mpy_parser.specs.Views.{lines_of}
use Rattle.mpy_parser.proofs.Falls.{place_fault}
use Rattle.mpy_parser.proofs.blocks.block_fault.Given as goal

-- the first fault of all is that of the rest
abbrev pub invariant-loop-rest : goal.invariant-loop-rest
invariant-loop-rest l = block_fault [] (lines_of l.entries) ≡ place_fault l.above (lines_of l.rest)

abbrev pub decreases-loop-rest : goal.decreases-loop-rest
decreases-loop-rest l = length l.rest
