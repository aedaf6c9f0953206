use Rattle.test_picker.proofs.Searches.{AreNone}
use Rattle.test_picker.proofs.blocks.Setting.found_nothing.Given as goal

-- the places up to here have nothing
abbrev pub invariant-loop-place : goal.invariant-loop-place
invariant-loop-place l = AreNone l.firsts.items l._place
