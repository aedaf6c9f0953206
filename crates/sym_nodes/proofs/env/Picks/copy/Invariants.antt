use Rattle.std.proofs.Common.{◌≡◌, take}
use Rattle.sym_nodes.proofs.env.Picks.copy.Given as goal

abbrev pub invariant-loop-member : goal.invariant-loop-member
invariant-loop-member g l = l.copies.items ≡ take l.member-index l.member-items
