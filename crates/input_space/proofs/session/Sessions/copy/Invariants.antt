use Rattle.std.proofs.Common.{◌≡◌, take}
use Rattle.input_space.proofs.session.Sessions.copy.Given as goal

abbrev pub invariant-loop-s : goal.invariant-loop-s
invariant-loop-s l = l.copies.items ≡ take l.s-index l.s-items
