use Rattle.std.proofs.Common.{◌≡◌, take}
use Rattle.mpy_tree.proofs.value.Values.is.Given as goal

-- the values so far are the same
abbrev pub invariant-loop-i : goal.invariant-loop-i
invariant-loop-i l = take l.i l.self-inside.items.items ≡ take l.i l.other-inside.items.items
