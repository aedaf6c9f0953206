use Rattle.std.proofs.Common.{◌≡◌, drop}
use Rattle.mpy_tree.specs.Operations.{is_front}
use Rattle.value_operations.proofs.comparisons.begins_with.Given as goal

-- the rest of the front begins the rest of the text if the whole begins the text
abbrev pub invariant-loop-i : goal.invariant-loop-i
invariant-loop-i l = is_front l.front l.text ≡ is_front (drop l.i l.front) (drop l.i l.text)
