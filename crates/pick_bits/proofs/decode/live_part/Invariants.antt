use Rattle.std.proofs.Common.{◌≡◌, map, take}
use Rattle.choice_tree.specs.Choices.{member_of}
use Rattle.pick_bits.proofs.Chosen.{choice_at}
use Rattle.pick_bits.proofs.decode.live_part.Given as goal

abbrev pub invariant-loop-edit : goal.invariant-loop-edit
invariant-loop-edit l =
    l.chosen.items ≡ map (choice_at (member_of l.all)) (take l.edit-index l.edit-items)
