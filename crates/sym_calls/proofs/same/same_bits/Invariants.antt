use Rattle.std.proofs.Common.{take}
use Rattle.sym_calls.specs.Alike.{BitsAlike}
use Rattle.sym_calls.proofs.same.same_bits.Given as goal

-- the bits so far are alike
abbrev pub invariant-loop-i : goal.invariant-loop-i
invariant-loop-i g l = BitsAlike g.L.Logic.reads l.fn.g (take l.i l.v) (take l.i l.w)
