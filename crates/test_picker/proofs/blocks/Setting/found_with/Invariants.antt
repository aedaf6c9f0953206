use Rattle.test_picker.proofs.Searches.{AreLater}
use Rattle.test_picker.proofs.blocks.Setting.found_with.Given as goal

abbrev pub invariant-loop-i : goal.invariant-loop-i
invariant-loop-i l =
    AreLater l.self l.block l.place l.programs l.found.firsts.items l.firsts.items l.i
