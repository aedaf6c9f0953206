use Rattle.std.proofs.Common.{◌≡◌, drop}
use Rattle.mpy_tree.specs.Operations.{is_part}
use Rattle.value_operations.proofs.comparisons.contains_text.Given as goal

-- the part stands in the rest if it stands in the text
abbrev pub invariant-loop-k : goal.invariant-loop-k
invariant-loop-k l = is_part l.part l.text ≡ is_part l.part (drop l.k l.text)
