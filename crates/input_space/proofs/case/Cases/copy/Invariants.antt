use Rattle.std.proofs.Common.{◌≡◌, take}
use Rattle.input_space.proofs.case.Cases.copy.Given as goal

abbrev pub invariant-loop-c : goal.invariant-loop-c
invariant-loop-c l = l.copies.items ≡ take l.c-index l.c-items
